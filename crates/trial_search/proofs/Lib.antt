pub mod InTime
mod Held
