pub mod Parts
pub mod Left
pub mod Memory
