pub mod NodeLaws
pub mod FactorLaws
pub mod TestLaws
pub mod AssignLaws
pub mod EachLaws
pub mod LineLaws
pub mod KindLaws
