pub mod Checked
pub mod Granted
pub mod Belows
pub mod Edited
pub mod Outcomes
