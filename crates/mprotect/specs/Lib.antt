pub mod Calls
pub mod Packed
pub mod Protects
