-- Lemmas of the crates below that proofs of programs and of memories cite.
pub use Rattle.rrs_instruction.proofs.Actions
pub use Rattle.rrs_instruction.proofs.Decoder
pub use Rattle.rrs_instruction.proofs.Fields
pub use Rattle.rrs_instruction.proofs.Formats
pub use Rattle.rrs_instruction.proofs.Instructions
pub use Rattle.rrs_instruction.proofs.Rows
pub use Rattle.rrs_memory.proofs.ByteLemmas
pub use Rattle.rrs_memory.proofs.RegionFields
pub use Rattle.rrs_memory.proofs.Regions
pub use Rattle.rrs_memory.proofs.SliceLent
pub use Rattle.rrs_memory.proofs.TextLemmas
pub use Rattle.rrs_memory.proofs.VecWords
-- Lemmas of this crate.
pub mod AccessChains
pub mod Accesses
pub mod ComputedSteps
pub mod Engines
pub mod Keeping
pub mod Making
pub mod Numbers
pub mod Programs
pub mod Stepping
pub mod TextLengths
