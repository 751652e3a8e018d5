pub mod Exchanged
pub mod Greeted
