pub mod Logs
pub mod MemLogs
