pub mod Shapes
pub mod Numbers
pub mod Names
pub mod Rows
pub mod Opcodes
pub mod Kinds
pub mod Laws
pub mod Calcs
