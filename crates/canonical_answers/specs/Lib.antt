pub mod MapAnswers
pub mod Rewritten
