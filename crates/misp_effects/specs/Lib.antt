pub mod Batches
pub mod Course
pub mod Effect
pub mod KeeperStates
pub mod Meanings
pub mod Prelude
pub mod Run
