pub mod GroupKinds
pub mod DoubleRings
pub mod Remainders
pub mod Grids
pub mod Rings
