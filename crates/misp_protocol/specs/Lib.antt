pub mod Asked
pub mod Counts
pub mod Leading
pub mod Parts
pub mod Text
pub mod TextTakes
pub mod Values
