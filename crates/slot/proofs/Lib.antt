pub mod Bits
pub mod Simple
