pub mod Copied
pub mod Filled
pub mod Search
pub mod Slices
pub mod Sorted
pub mod Stored
pub mod Turns
