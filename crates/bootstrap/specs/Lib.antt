pub mod Bootstrap
pub mod Indices
pub mod Steps
