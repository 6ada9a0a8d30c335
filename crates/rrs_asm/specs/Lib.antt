-- What a source says, what pseudo-instructions are, which bytes a statement is, and what is made.
pub mod Source
pub mod Names
pub mod Pseudo
pub mod Statements
pub mod Sections
pub mod Forms
