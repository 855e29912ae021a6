pub mod Wholes
pub mod Filling
pub mod Scales
