pub mod Files
pub mod Reads
pub mod Laws
pub mod Readers
