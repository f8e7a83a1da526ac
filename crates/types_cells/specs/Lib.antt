pub mod Layout
pub mod Store
pub mod Calls
pub mod Flat
pub mod Settled
pub mod Parts
