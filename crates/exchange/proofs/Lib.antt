mod Opens
mod Running
mod Keying
mod Reading
mod Runners
