pub mod Lists
pub mod Pops
pub mod Frames
pub mod Answered
