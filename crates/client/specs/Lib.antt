pub mod Requests
pub mod Results
pub mod Paths
pub mod Listings
pub mod Greetings
