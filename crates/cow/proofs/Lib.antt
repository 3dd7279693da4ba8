pub mod RoundTrip
pub mod Marked
mod Rises
