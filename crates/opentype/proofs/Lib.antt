pub mod BigEndian
pub mod Complement
