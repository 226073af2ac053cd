pub mod Order
pub mod Queue
pub mod Runs
pub mod Steps
