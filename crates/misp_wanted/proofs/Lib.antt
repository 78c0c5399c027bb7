pub mod Ascending
pub mod HeldRows
pub mod KeyReadings
pub mod KeySets
pub mod ListFields
pub mod ManifestFields
pub mod OnlyRows
pub mod Wants
