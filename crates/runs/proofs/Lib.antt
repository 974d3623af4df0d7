pub mod Outputs
pub mod Running
