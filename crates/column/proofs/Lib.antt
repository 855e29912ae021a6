pub mod Bytes
pub mod Listed
pub mod Undeclared
