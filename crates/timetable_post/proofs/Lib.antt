pub mod Answering
pub mod Histories
