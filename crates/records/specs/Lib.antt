pub mod Limits
pub mod Events
pub mod Kinds
pub mod Layout
pub mod Shown
