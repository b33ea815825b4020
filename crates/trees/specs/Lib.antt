pub mod Faults
pub mod Entries
pub mod Answers
pub mod Buffers
