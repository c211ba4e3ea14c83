pub mod Edge
pub mod Ranks
pub mod Lower
pub mod Room
pub mod Rules
pub mod Parts
pub mod Twins
pub mod Beginnings
