pub mod Values
pub mod Readings
