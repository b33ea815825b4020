pub mod Next
pub mod Child
pub mod Steps
pub mod Texts
pub mod Rest
pub mod Roots
pub mod Undoing
pub mod Seen
