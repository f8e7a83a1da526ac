pub mod ToldLaws
pub mod OperationLaws
pub mod EnumerationLaws
pub mod GatherLaws
