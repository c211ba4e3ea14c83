pub mod Handed
pub mod Walk
