pub mod Rows
pub mod Framed
pub mod Own
pub mod Tabled
pub mod Fronts
pub mod Files
