mod Described
mod RowCall
pub mod ValueBytes
pub mod ValueRanges
pub mod RowForms
pub mod ShortWords
pub mod LooksAtWords
