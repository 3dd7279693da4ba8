pub mod Merge
pub mod Rows
pub mod Used
pub mod Tiles
pub mod Placed
pub mod Firsts
pub mod Stored
pub mod Merging
