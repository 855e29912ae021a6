pub mod Named
mod Checking
mod Outlines
mod Putting
mod Bounds
mod Telling
mod Indicators
mod Typed
