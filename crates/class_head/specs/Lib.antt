pub mod Header
pub mod Readings
