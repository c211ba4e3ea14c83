pub mod Chains
pub mod Sieve
pub mod Listed
pub mod Zero
