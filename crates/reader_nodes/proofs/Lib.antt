pub mod RangeLaws
pub mod ChoiceLaws
pub mod SortLaws
