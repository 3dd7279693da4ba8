pub mod Steps
pub mod Cases
pub mod Protects
