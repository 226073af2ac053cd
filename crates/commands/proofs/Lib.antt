mod Numbers
mod Followed
mod Steps
mod Ends
pub mod Texts
mod Lines
mod Placing
