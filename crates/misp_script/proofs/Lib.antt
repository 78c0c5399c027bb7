mod Cutting
mod Digits
mod Distinct
mod Documents
mod HexDigits
mod Lookups
mod Marks
mod Parts
mod Steps
mod Uuids
mod Visible
pub mod Nets
pub mod Places
