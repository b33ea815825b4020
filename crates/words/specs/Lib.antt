pub mod Printable
pub mod Faults
pub mod Escapes
pub mod Words
