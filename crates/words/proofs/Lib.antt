pub mod Machine
pub mod Dotting
pub mod Splits
