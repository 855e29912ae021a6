pub mod Words
pub mod Reading
pub mod Values
pub mod ValueReading
