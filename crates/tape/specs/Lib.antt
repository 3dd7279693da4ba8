pub mod Tape
pub mod Kinds
pub mod Text
