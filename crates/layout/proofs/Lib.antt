pub mod RoundTrip
pub mod Left
pub mod Numbers
