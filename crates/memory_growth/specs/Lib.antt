pub mod Growths
pub mod Listens
pub mod Lines
