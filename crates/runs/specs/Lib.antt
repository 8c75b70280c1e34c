pub mod Calls
pub mod Counts
pub mod Straight
pub mod Places
pub mod ReadBack
pub mod Steps
pub mod Law
