pub mod Rows
pub mod Rising
pub mod Sites
mod Known
mod Unended
pub mod Chained
mod Needing
pub mod TempsPlaced
mod Room
