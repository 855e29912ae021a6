pub mod Again
pub mod Refused
