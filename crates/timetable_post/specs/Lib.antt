pub mod Calls
pub mod Histories
pub mod Posts
pub mod Queries
