pub mod Erasure
pub mod Kept
