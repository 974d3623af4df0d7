pub mod Bases
pub mod Eliminations
pub mod GroupCodes
