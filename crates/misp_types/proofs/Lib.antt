pub mod Digits
pub mod Splitting
pub mod LowerCase
pub mod Kept
pub mod Barless
pub mod Again
pub mod StandardFacts
