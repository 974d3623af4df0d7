pub mod Coded
pub mod FieldInverses
pub mod GroupLaws
pub mod SumProducts
pub mod Handed
