pub mod Serving
pub mod Contents
pub mod Sent
pub mod Reports
pub mod Tells
pub mod Wholes
