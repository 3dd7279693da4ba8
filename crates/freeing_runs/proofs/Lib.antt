pub mod Fewer
pub mod Less
pub mod Runs
pub mod Leaves
pub mod Steps
pub mod Blanks
