pub mod Rows
pub mod Saving
pub mod Judging
