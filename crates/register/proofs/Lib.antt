pub mod Listed
pub mod Counting
