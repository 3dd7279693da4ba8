pub mod Trace
pub mod Untouched
pub mod Levels
pub mod Shown
pub mod Nine
pub mod Found
