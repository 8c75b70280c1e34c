pub mod Arrays
pub mod Cursors
