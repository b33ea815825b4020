pub mod Sessions
pub mod Copies
