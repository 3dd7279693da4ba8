pub mod RoundTrip
mod Places
mod Live
