pub mod Handed
pub mod Walking
pub mod Judging
pub mod Own
pub mod Answered
pub mod Beginnings
