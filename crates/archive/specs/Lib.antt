pub mod Calls
pub mod Answers
pub mod Runs
pub mod Kit
pub mod Groups
pub mod Filings
pub mod Refits
pub mod Laws
