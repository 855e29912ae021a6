pub mod Ascii
pub mod Edges
