pub mod Criteria
pub mod Measures
