pub mod Parsed
pub mod Walks
pub mod Taken
