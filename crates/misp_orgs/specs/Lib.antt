pub mod Admin
pub mod Keys
pub mod Org
pub mod Roles
