pub mod Fields
pub mod Needs
