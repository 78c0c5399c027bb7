pub mod Page
pub mod Window
pub mod Wishes
pub mod Fitting
pub mod Names
