pub mod Conversations
pub mod Loadings
