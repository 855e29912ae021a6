pub mod Length
pub mod Whole
pub mod WholeRules
pub mod WholeText
pub mod WholeExamples
pub mod Examples
