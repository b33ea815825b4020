pub mod Prefixes
pub mod Spans
pub mod Fronts
pub mod RowTexts
pub mod Read
pub mod ReadTexts
