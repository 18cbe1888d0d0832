mod Adding
mod BlockTypes
pub mod Outlines
pub mod Rooms
mod Fitting
mod Runs
pub mod Totals
