pub mod Conversed
pub mod Course
pub mod Dialogue
pub mod Parties
pub mod Shares
pub mod Taking
