pub mod Calls
pub mod CommonDivisors
pub mod CopyWords
pub mod EchoRun
pub mod PortLogs
pub mod PutString
pub mod Runs
pub mod WriteAndExit
