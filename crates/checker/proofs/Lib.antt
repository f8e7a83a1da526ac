-- Laws of the check call's steps.
pub mod DocumentWords
pub mod AnsweringLaws
pub mod FromLaws
pub mod FirstLaws
