pub mod Order
pub mod Prelude
pub mod Reading
