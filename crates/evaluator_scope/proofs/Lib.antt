pub mod BlockLaws
pub mod StateValues
pub mod NamedLaws
