pub mod Slices
pub mod ReadingLaws
pub mod StepLaws
pub mod Every
pub mod Reaching
