pub mod Column
pub mod Group
pub mod Said
