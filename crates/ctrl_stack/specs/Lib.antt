pub mod Stack
pub mod Faults
