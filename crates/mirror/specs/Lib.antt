pub mod Reflecting
pub mod Stages
pub mod Plans
pub mod Drafts
pub mod Memory
pub mod Servers
pub mod Seats
pub mod Worlds
