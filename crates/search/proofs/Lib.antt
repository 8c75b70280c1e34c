pub mod Turns
pub mod Placing
