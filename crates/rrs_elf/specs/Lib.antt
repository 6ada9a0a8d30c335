-- Executables in the ELF format: what one is, why a file is refused, what a load leaves, and the
-- symbol table.
pub mod Numbers
pub mod Headers
pub mod ProgramHeaders
pub mod Executables
pub mod Refusals
pub mod Loading
pub mod SymbolTables
pub mod Sections
pub mod Symbols
