mod BookSteps
pub mod Books
mod Entries
mod KeyOrder
mod SortedKeys
pub mod ToolStates
