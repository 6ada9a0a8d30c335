use Rattle.std.proofs.Common.{◌≡◌, ◌-◌, ℕ, slice_index_or, vec_len, vec_capacity}
use Rattle.rrs_fast.proofs.zero_words.ZeroWords.grow.Given as goal

-- zeros were appended
abbrev pub invariant-zeros : goal.invariant-zeros
invariant-zeros l = record {
  same : (i : ℕ) → slice_index_or l.self.words.mem.items i 0 ≡ slice_index_or l.initial.self.words.mem.items i 0;
  room_kept : l.self.room ≡ l.initial.self.room;
  reserved_kept : vec_capacity l.self.words.mem ≡ vec_capacity l.initial.self.words.mem;
}

abbrev pub decreases-zeros : goal.decreases-zeros
decreases-zeros l = l.wanted - vec_len l.self.words.mem
