pub mod Forms
pub mod Script
pub mod Linking
pub mod Sessions
pub mod Steps
