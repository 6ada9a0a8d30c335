-- For proofs of programs: what reads give, also after writes.
pub use Rattle.rrs_memory.proofs.ByteLemmas.{Outside, same_bytes, read-mapped, write-allowed, store-outside, read-kept, outside_from_none, read-stored}
