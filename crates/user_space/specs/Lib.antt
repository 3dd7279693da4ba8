pub mod Flags
pub mod User
pub mod Packed
