pub mod RoundTrip
pub mod Stores
pub mod Rising
pub mod Sound
pub mod Loops
pub mod Placing
