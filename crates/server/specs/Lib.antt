pub mod Refusals
pub mod Greetings
pub mod Asking
pub mod Requests
pub mod Says
pub mod Responses
pub mod Writings
