pub mod Entries
pub mod Parameters
