pub mod MergeLaws
pub mod NewLaws
