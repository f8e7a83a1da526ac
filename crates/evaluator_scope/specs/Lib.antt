pub mod Blocks
pub mod Named
