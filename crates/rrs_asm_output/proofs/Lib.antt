-- Lemmas.
mod Told
