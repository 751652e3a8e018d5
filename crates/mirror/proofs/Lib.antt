pub mod Going
pub mod Saying
pub mod Keeping
pub mod Drafting
pub mod Moving
pub mod Seating
pub mod Mirroring
