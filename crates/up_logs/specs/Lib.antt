pub mod UpLogs
