pub mod ParentLaws
pub mod BitLaws
pub mod MarkLaws
pub mod RepeatLaws
pub mod WritingLaws
