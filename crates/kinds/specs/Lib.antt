pub mod Laws
pub mod Tuples
pub mod Writing
pub mod Sides
