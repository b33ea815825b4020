pub mod Faults
pub mod Fields
pub mod Said
pub mod Texts
