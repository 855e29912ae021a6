pub mod Qrydsc
pub mod Origins
pub mod Entries
pub mod Whole
