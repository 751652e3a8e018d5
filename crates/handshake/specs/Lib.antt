pub mod Judged
pub mod Handshakes
pub mod Places
pub mod Servers
pub mod Sharing
