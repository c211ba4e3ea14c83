pub mod Attributes
pub mod Sound
