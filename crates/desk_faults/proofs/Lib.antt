pub mod LeftFaults
pub mod LeftBoard
