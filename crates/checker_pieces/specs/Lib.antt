pub mod Piece
pub mod Stage
pub mod Closed
pub mod Building
pub mod Rows
pub mod Answering
