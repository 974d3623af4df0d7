pub mod Buffers
pub mod Laws
pub mod Records
pub mod Stored
pub mod Turns
pub mod Words
