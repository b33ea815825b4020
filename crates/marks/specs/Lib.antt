pub mod Marks
pub mod Edits
pub mod Plain
pub mod Squash
pub mod Laws
