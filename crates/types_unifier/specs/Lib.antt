pub mod Comparing
pub mod Meeting
pub mod Merging
