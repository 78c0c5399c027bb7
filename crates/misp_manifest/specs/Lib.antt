pub mod Manifest
pub mod Wanted
