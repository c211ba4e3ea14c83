pub mod Afresh
pub mod Enough
