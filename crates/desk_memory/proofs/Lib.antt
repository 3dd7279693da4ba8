pub mod LeftMemory
