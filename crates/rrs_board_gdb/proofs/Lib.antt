-- Lemmas of this crate.
pub mod GoingLemmas
pub mod SessionLemmas
pub mod AnswerLemmas
