pub mod Leaves
pub mod Below
pub mod Remembered
