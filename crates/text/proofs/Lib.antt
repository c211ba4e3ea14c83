pub mod Examples
pub mod Joined
pub mod Laws
pub mod Names
pub mod Runs
pub mod Texts
