pub mod Piece
pub mod Texts
pub mod Marks
