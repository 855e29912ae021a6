pub mod Nibbles
pub mod Parts
pub mod Number
pub mod Examples
