pub mod Search
pub mod Compared
