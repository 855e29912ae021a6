pub mod Hex
pub mod Conversion
pub mod Picked
pub mod Measure
pub mod Guess
pub mod Counts
pub mod Releases
