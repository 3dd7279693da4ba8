pub mod Sdm
pub mod Agreement
