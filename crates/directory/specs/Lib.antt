pub mod Tables
pub mod Tags
pub mod Listing
