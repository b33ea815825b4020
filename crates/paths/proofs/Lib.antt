pub mod Fronts
pub mod Joins
pub mod Laws
pub mod Steps
pub mod Shared
pub mod Same
pub mod Granted
pub mod Tests
