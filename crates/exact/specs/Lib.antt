pub mod Stops
pub mod Pools
pub mod Tests
pub mod Turns
pub mod Faults
pub mod Roomier
