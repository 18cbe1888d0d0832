pub mod Lengths
pub mod Outline
