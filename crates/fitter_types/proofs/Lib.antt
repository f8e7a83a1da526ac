pub mod NameWalk
pub mod Types
