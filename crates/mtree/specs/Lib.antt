pub mod Numbers
pub mod Lexed
pub mod Keywords
pub mod Lines
