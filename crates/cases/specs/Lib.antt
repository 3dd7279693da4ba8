pub mod KeyCases
pub mod UserCase
