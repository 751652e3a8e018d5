pub mod Stored
pub mod Requests
