pub mod Answers
pub mod Asking
pub mod Fates
pub mod Talks
pub mod Storing
pub mod Knowing
