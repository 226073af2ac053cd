pub mod Sources
pub mod Tables
