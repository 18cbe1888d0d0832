mod Lists
mod Stacks
mod Zeros
pub mod Pushed
pub mod Popped
pub mod Lying
mod Straights
mod Jumps
mod Controls
mod Blocks
mod Standing
