pub mod Filling
pub mod Entries
pub mod Progress
pub mod Lists
pub mod Origins
pub mod Whole
