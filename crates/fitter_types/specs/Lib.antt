pub mod Roles
pub mod Held
