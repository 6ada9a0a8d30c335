-- The definitions, from the instruction set up to the code. docs/TRUST.md leads through them.

-- The instruction set, of rrs_instruction: words, encodings, the table of rows, results.
pub use Rattle.rrs_instruction.specs.Words
pub use Rattle.rrs_instruction.specs.Encodings
pub use Rattle.rrs_instruction.specs.Table
pub use Rattle.rrs_instruction.specs.Instructions
pub use Rattle.rrs_instruction.specs.Operands
pub use Rattle.rrs_instruction.specs.Results
-- Memory, of rrs_memory: bytes at addresses, what each memory keeps, and the memories of the kit.
pub use Rattle.rrs_memory.specs.Bytes
pub use Rattle.rrs_memory.specs.AccessLists
pub use Rattle.rrs_memory.specs.VecBytes
pub use Rattle.rrs_memory.specs.SliceBytes
pub use Rattle.rrs_memory.specs.Spaces
pub use Rattle.rrs_memory.specs.Hexadecimal
pub use Rattle.rrs_memory.specs.Loading
pub use Rattle.rrs_memory.specs.LoadTexts
pub use Rattle.rrs_memory.specs.SpaceFields
pub use Rattle.rrs_memory.specs.SpaceLends
-- The machine, what its steps access, and texts.
pub mod Machine
pub mod Steps
pub mod Accesses
pub mod Texts
pub mod FaultTexts
-- The code as seen by these: what a processor, the executor and the outputter say of themselves.
pub mod Executor
pub mod Engines
pub mod Outputter
