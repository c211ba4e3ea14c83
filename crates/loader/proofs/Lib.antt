pub mod Few
pub mod Thin
pub mod Own
