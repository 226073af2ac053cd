pub mod LinesRead
pub mod Progress
pub mod Serving
pub mod Writes
