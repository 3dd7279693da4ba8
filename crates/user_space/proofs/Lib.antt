pub mod Signs
pub mod Lent
pub mod Leaving
