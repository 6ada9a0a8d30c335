-- The instruction set: words, encodings, results, the table of rows, and instructions as values.
-- docs/TRUST.md leads through them.
pub mod Words
pub mod Encodings
pub mod Results
pub mod Table
pub mod Instructions
pub mod Operands
