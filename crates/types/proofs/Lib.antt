pub mod Keys
pub mod KindLaws
pub mod BaseTypes
