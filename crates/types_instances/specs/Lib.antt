pub mod Fill
pub mod Filled
pub mod Moved
pub mod Clean
