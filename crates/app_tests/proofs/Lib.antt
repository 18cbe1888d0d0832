mod Quiet
mod Stored
mod Told
