pub mod Regions
pub mod Packed
