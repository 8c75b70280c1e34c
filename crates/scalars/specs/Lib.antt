pub mod DataTypes
pub mod Formats
