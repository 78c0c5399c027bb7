pub mod Count
pub mod Reading
pub mod Words
