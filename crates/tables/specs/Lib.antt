pub mod Tables
pub mod TablesLemmas
pub mod Places
