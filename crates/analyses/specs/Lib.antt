pub mod Book
pub mod Headings
pub mod Tools
