pub mod Holding
pub mod Shown
