pub mod Judging
pub mod Tellings
pub mod Refits
pub mod Steps
