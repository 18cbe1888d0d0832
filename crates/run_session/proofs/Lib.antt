pub mod InRange
pub mod Phases
pub mod Refusals
pub mod Within
