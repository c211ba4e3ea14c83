pub mod Bodies
pub mod Gathered
mod Examples
pub mod Named
