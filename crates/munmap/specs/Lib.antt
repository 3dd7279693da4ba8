pub mod Calls
pub mod Packed
