pub mod View
pub mod Order
pub mod Kinds
pub mod Parts
pub mod Statements
pub mod Form
pub mod Inside
pub mod Naming
