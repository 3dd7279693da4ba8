pub mod Faults
pub mod Theorem
pub mod Levels
pub mod Shown
pub mod Nine
pub mod Found
