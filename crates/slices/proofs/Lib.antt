pub mod Lawful
pub mod Pushes
pub mod Searches
