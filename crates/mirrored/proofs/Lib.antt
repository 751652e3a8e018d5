pub mod Coming
pub mod Hearing
pub mod Shaking
pub mod Exchanging
