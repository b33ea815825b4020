pub mod Steps
pub mod Faults
pub mod Pieces
pub mod Names
pub mod Order
pub mod Paths
pub mod Laws
