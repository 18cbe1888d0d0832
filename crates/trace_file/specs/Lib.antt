pub mod Begins
pub mod Fields
pub mod Rows
pub mod Files
pub mod Laws
