-- What a program finds where it starts as a process, the marks of its pages and its stack, and what
-- it is to run an executable as one. Definitions of rrs_linux that contracts here cite are passed
-- on.
pub use Rattle.rrs_linux.specs.SystemCalls
pub mod ProcessPlaces
pub mod ProcessMemories
pub mod Protection
pub mod InitialStack
pub mod Layouts
pub mod Images
pub mod Processes
pub mod Watching
pub mod Progress
