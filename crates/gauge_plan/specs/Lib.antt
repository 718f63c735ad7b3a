pub mod Lent
pub mod Memory
pub mod Own
pub mod Found
pub mod Opening
