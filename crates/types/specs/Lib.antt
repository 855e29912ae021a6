pub mod Types
pub mod FixedLength
pub mod Names
pub mod Places
pub mod Held
pub mod Kinds
