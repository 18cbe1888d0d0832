pub mod Along
pub mod Mapped
pub mod Nothing
