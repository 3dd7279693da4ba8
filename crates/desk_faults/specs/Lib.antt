pub mod Faults
pub mod Board
