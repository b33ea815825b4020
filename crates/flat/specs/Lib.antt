pub mod Rooms
pub mod Meant
