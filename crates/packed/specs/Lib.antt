pub mod Packed
pub mod Denoted
pub mod Inner
