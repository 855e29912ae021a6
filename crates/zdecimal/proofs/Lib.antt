pub mod Base10
pub mod Digits
pub mod ByPlace
pub mod Written
