pub mod Judged
pub mod Told
pub mod Ends
pub mod Files
