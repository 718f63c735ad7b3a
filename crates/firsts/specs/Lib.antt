pub mod Firsts
pub mod Places
