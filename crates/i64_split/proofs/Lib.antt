pub mod Adding
pub mod Saved
pub mod Temporaries
