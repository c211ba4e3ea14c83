mod Filled
pub mod Listed
pub mod Zeros
