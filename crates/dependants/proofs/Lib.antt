pub mod Steps
pub mod Stored
pub mod Edge
pub mod Demand
