pub mod Named
pub mod Filling
pub mod Edge
pub mod Agree
pub mod Along
