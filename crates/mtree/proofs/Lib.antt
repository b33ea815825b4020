pub mod Digits
pub mod Lexing
pub mod Reading
pub mod Ranged
pub mod Numerals
pub mod Sizes
