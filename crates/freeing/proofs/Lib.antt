pub mod Most
pub mod Barrens
