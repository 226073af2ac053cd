pub mod Filled
pub mod Lines
pub mod Printing
pub mod Restored
pub mod Underway
