-- Operands in the place of those of an instruction.
pub mod Operands
