pub mod Lines
pub mod Walks
