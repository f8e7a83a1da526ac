pub mod Order
pub mod Rows
