pub mod Regions
pub mod List
