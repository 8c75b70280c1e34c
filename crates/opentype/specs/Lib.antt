pub mod Numbers
pub mod Alignment
