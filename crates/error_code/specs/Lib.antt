pub mod ErrorCode
