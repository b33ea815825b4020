pub mod Steps
pub mod Spending
