pub mod Loads
pub mod Meant
