pub mod Heaps
pub mod Parts
pub mod Runs
pub mod Sorts
