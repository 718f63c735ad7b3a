pub mod Trace
pub mod Fault
