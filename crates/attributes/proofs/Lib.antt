pub mod Frames
pub mod Tiled
mod Examples
