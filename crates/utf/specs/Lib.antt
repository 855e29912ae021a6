pub mod Ascii
pub mod Utf8Code
pub mod Utf16Code
pub mod LikelyCode
pub mod Utf8Blocks
pub mod Lossy
