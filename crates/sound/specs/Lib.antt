pub mod Sound
pub mod Where
