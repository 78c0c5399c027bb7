pub mod NameSets
pub mod Coming
pub mod Finding
