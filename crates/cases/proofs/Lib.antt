pub mod KeyCases
pub mod Entered
pub mod Mapped
pub mod UserCase
