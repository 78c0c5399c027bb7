pub mod Fields
pub mod ItemRows
pub mod Putting
pub mod Texts
pub mod StandardFacts
