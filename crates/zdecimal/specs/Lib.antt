pub mod ZDecimal
pub mod ByPlace
pub mod Written
pub mod Inner
