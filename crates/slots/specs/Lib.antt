pub mod Slots
pub mod Shifts
pub mod Sorted
