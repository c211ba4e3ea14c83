pub mod Dependants
