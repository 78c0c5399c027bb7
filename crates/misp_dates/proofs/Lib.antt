pub mod Days
pub mod Moments
pub mod Numbers
pub mod StandardFacts
pub mod Texts
