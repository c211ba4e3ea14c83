pub mod Wrongs
pub mod Cheats
pub mod Modules
pub mod Classes
