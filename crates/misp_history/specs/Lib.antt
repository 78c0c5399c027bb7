pub mod Acts
pub mod Answered
pub mod History
pub mod Merging
pub mod Origins
pub mod Outcomes
pub mod Passing
