pub mod Worked
pub mod Lives
