pub mod Unicode
pub mod Ascii
pub mod Likely
pub mod Laws
pub mod Examples
