pub mod Chains
pub mod Judging
pub mod Scores
pub mod Spans
pub mod Temporal
