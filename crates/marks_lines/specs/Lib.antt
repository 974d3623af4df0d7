pub mod Held
pub mod Lines
pub mod Replies
pub mod Symbols
