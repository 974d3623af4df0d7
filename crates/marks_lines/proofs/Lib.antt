pub mod Appending
pub mod Grammar
pub mod LongLines
pub mod Spelling
