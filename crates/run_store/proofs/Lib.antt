pub mod Resolving
mod Alone
pub mod Ranges
