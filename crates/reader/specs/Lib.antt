pub mod Buffers
pub mod Calls
pub mod Histories
pub mod Loads
pub mod Stored
