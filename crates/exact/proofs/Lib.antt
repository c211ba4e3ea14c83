pub mod Lines
pub mod Slots
pub mod Tests
pub mod Back
pub mod Forth
pub mod Exactly
pub mod Roomier
