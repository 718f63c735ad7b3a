pub mod Cpas
