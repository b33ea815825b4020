pub mod Runs
pub mod Edits
pub mod Opens
pub mod Tells
pub mod Replays
pub mod Groups
pub mod Filings
pub mod Refits
