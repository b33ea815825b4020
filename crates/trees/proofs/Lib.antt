pub mod Grown
pub mod Closed
pub mod Prefixed
pub mod Lasts
pub mod Answering
pub mod Fine
pub mod Written
