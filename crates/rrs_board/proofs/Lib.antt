-- Lemmas of this crate.
pub mod RegisterBytes
pub mod BoardBytes
pub mod Sessions
pub mod InputReads
pub mod Loaded
pub mod RamSteps
pub mod RamWords
pub mod BoardLegs
pub mod BoardHalves
pub mod RamHalts
pub mod RamHalves
pub mod PaddedWords
pub mod ImageEnds
mod ReadsKeep
