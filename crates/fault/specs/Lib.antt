pub mod Faults
pub mod Packed
