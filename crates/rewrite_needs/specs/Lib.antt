pub mod Watching
pub mod Temporaries
pub mod Rising
pub mod Needing
pub mod Room
