pub mod Ends
pub mod Key
pub mod Loop
