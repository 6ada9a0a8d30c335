-- What the tests state: a call of a console, a machine that prints a greeting, and memories.
pub mod Consoles
pub mod Greeting
pub mod ProgramExamples
