-- What is stated of the system calls: what a call asks for, the bytes that it transfers, and what
-- it does to the environment and the machine; and the same over streams that are known bytes.
pub mod Requests
pub mod BufferedBytes
pub mod Transfers
pub mod Giving
pub mod Random
pub mod Names
pub mod Statuses
pub mod Vectors
pub mod Clocks
pub mod SystemCalls
pub mod Recording
