pub mod Answers
pub mod Bodies
pub mod Calling
pub mod Calls
pub mod Requests
pub mod Telling
