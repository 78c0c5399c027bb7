pub mod Checked
pub mod Numbers
pub mod Addresses
pub mod Kinds
pub mod Forms
pub mod Values
