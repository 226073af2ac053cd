pub mod RoundTrip
pub mod Bounds
