pub mod Failures
pub mod Shown
pub mod Recorded
