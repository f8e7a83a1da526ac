-- Document 01, "States and runs", in reading order.
pub mod Endings
pub mod WordCount
pub mod Outcomes
pub mod Environment
pub mod Operations
pub mod Assignments
pub mod Rules
pub mod Paragraphs
pub mod Run
pub mod Claims
pub mod Applications
pub mod Listing
pub mod ListingRun
pub mod Evaluations
pub mod Troubles
pub mod TroublePlaces
