pub mod Packets
pub mod Reads
pub mod Frames
pub mod Lines
pub mod Metadata
pub mod Text
