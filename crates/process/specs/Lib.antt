pub mod Gather
pub mod Given
pub mod Peers
pub mod Statuses
pub mod Masks
