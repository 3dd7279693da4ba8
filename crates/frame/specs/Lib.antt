pub mod Frames
pub mod Found
pub mod Results
