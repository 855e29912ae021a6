pub mod PieceLaws
pub mod ItemLaws
pub mod Bound
pub mod Texts
pub mod MarkLaws
pub mod Waiting
