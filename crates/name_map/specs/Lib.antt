pub mod Laws
pub mod NameMaps
pub mod Names
pub mod Sections
pub mod Written
