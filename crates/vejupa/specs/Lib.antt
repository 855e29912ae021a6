pub mod Answers
pub mod Descriptions
pub mod Rows
