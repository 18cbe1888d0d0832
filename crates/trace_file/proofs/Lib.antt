mod Apart
mod OneByte
mod Spellings
mod Exact
mod Several
mod Tables
pub mod Whole
pub mod Written
mod Examples
