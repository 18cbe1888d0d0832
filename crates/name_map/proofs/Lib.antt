pub mod Behind
pub mod Chunks
mod Examples
pub mod Follow
pub mod Forms
pub mod OneNames
pub mod Proper
pub mod PutRead
