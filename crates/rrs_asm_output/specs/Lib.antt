-- The executable of a program that was assembled.
pub mod Executables
pub mod Mistakes
