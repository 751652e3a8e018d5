pub mod Values
pub mod Opens
pub mod Runs
pub mod Tallies
pub mod Watching
