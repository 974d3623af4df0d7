pub mod Adding
pub mod Books
pub mod Fitting
pub mod Rows
