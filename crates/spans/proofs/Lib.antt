pub mod Addresses
pub mod Gaps
