-- Laws of the names of a document and of the table of givens.
pub mod NameLaws
pub mod TableLaws
pub mod PlaceLaws
