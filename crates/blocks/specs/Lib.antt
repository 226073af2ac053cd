pub mod Blocks
pub mod Loads
pub mod Rows
pub mod Views
