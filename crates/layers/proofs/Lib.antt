pub mod Lacks
pub mod Few
pub mod Squashing
