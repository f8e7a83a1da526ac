pub mod Call
pub mod Canonical
pub mod MapNodes
pub mod Numbered
pub mod Positions
pub mod RowMap
