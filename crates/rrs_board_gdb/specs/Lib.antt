-- How a board goes on under gdb, what is shown and changed of it, and what packets mean for it.
-- Definitions that contracts here cite are passed on.
pub use Rattle.rrs_memory.specs.Loading
pub mod Going
pub mod Shown
pub mod Sessions
pub mod Answers
