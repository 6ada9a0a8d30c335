-- What is written of a run: the commit log, how often each word was executed, and what a profile
-- begins with. And how names are shown.
pub mod Records
pub mod CommitLogs
pub mod BoardRecords
pub mod BoardLogs
pub mod Coverages
pub mod ShownNames
pub mod Profiles
