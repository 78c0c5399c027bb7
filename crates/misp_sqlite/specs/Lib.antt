pub mod Connected
pub mod Kept
pub mod Putting
pub mod Ranges
pub mod Standing
pub mod Stored
pub mod Texts
