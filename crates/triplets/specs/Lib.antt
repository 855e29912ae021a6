pub mod Triplets
pub mod Descriptors
pub mod Steps
