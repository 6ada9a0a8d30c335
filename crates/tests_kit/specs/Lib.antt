-- What the tests state: the counts of calls of rows, and memories.
pub mod Counting
pub mod SumLoopExamples
