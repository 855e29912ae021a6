pub mod TypeWords
pub mod Fields
mod Bits
mod Holding
pub mod Bitwise
pub mod Columns
pub mod Packed
pub mod Values
