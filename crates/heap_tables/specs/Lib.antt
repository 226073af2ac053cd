pub mod Filling
pub mod Searching
