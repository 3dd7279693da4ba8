pub mod LeftRegions
