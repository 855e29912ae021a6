pub mod Inner
pub mod Cell
