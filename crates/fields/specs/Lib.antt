pub mod FieldKinds
pub mod SmallFields
