pub mod Duplicates
pub mod Inside
