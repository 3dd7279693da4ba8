pub mod Words
pub mod Halves
pub mod Records
pub mod Stores
pub mod RoundTrip
