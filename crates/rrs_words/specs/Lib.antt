-- The words that the 48 rows leave out: the instructions on CSRs, mret, wfi and fence.i, the
-- numbers and names of the CSRs, the instructions of extension A, those of Zba to Zicond, the
-- compressed ones, and the texts.
pub mod CsrNumbers
pub mod SystemInstructions
pub mod SystemTexts
pub mod AtomicInstructions
pub mod AtomicTexts
pub mod BitInstructions
pub mod BitTexts
pub mod Layers
pub mod Forms
pub mod FormBits
pub mod FormTexts
