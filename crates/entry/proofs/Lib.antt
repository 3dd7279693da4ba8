pub mod Entry
pub mod Flags
pub mod Joined
pub mod Writable
