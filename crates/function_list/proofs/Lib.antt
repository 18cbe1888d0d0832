mod Marking
mod Texts
