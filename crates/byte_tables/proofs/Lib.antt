pub mod Rooms
pub mod Bytes
pub mod Gate
