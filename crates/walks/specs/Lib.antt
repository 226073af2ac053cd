pub mod Logs
pub mod Walks
