pub mod Chains
pub mod Examples
pub mod Texts
pub mod Windows
pub mod Words
