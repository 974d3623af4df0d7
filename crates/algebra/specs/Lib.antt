pub mod Checks
pub mod Codes
pub mod Fields
pub mod Groups
pub mod Refusals
