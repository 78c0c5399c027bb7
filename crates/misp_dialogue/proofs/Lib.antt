pub mod Chains
pub mod Courses
pub mod Faults
pub mod Steps
pub mod Taking
