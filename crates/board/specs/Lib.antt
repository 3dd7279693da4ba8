pub mod Board
pub mod Packed
