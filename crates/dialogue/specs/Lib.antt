pub mod Conversations
pub mod Obeying
pub mod Tables
