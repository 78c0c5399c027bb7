pub mod Network
pub mod Script
pub mod Summary
