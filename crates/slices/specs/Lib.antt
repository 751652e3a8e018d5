pub mod Answers
pub mod First
pub mod Held
pub mod Limits
pub mod Names
pub mod Padding
pub mod Parts
