pub mod CallLaws
pub mod NumberLaws
pub mod RowLaws
pub mod VisitLaws
pub mod WriteLaws
