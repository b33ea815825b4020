pub mod Copied
pub mod Chosen
pub mod Taken
pub mod Applied
pub mod Edits
