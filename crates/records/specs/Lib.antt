pub mod Contexts
pub mod Ids
pub mod Keys
pub mod Limits
pub mod Operations
pub mod Places
pub mod Records
pub mod Refusals
