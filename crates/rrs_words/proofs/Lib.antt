-- Lemmas of this crate.
pub mod SystemRows
pub mod SystemDecoding
pub mod AtomicPlaces
pub mod BitPlaces
pub mod FormBits
pub mod ShortDecoding
