pub mod Reads
pub mod Values
pub mod Verbs
pub mod Arguments
pub mod Lines
pub mod Scripts
pub mod Written
pub mod Laws
