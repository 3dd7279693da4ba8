pub mod Steps
pub mod Entries
pub mod Agree
pub mod Rights
pub mod Examples
