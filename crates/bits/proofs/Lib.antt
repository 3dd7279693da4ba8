pub mod Choice
pub mod Masks
pub mod Single
pub mod Counts
pub mod Counter
