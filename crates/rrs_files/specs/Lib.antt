-- What is stated of a program's files: the calls of the host, the paths, the descriptors, what each
-- call of the program asks for and does, and a run of a process with files. Definitions of rrs_exec
-- that contracts here cite are passed on.
pub use Rattle.rrs_exec.specs.Processes
pub mod Events
pub mod Descriptors
pub mod Paths
pub mod Statuses
pub mod Requests
pub mod Entries
pub mod HostOpens
pub mod Acts
pub mod Calls
pub mod Runs
