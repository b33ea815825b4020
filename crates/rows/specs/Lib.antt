pub mod Maps
pub mod Rows
pub mod Builds
pub mod Positions
pub mod Sorts
pub mod Tables
