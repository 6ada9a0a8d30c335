pub mod Records
pub mod BoardSessions
pub mod Covering
pub mod Logging
pub mod Unrecorded
pub mod Writing
