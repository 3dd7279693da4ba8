pub mod Ahead
pub mod Search
pub mod Scans
pub mod Compared
pub mod Adjoining
