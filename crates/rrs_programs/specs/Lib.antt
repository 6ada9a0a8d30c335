-- What is stated of programs: the words of each, what holds when one is called, and what it leaves.
-- Programs that are called and return, and a port that prints.
pub mod Computing
pub mod Ports
pub mod Printing
-- Programs that make system calls.
pub mod WritingAndExiting
pub mod Echoing
