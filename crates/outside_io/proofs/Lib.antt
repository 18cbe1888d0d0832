pub mod Counting
pub mod Fronts
mod Logged
mod Moments
mod Steps
pub mod Written
