pub mod Answers
pub mod Leaves
pub mod Passed
pub mod Tables
pub mod Columns
pub mod Placed
pub mod Clauses
pub mod Zeros
