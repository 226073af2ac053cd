pub mod Continuing
pub mod Conversing
pub mod Lengths
pub mod Refusals
pub mod Room
