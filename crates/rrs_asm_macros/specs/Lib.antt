-- What block comments are, which words are directives of macros, which lines a result has, and what
-- the lines of a source become.
pub mod Comments
pub mod Directives
pub mod Lines
pub mod Mistakes
pub mod Conditions
pub mod Operands
pub mod Expanding
pub mod Reading
pub mod Expansion
pub mod Forms
pub mod Arguments
pub mod Scanning
pub mod Tables
pub mod Substitution
pub mod Symbols
