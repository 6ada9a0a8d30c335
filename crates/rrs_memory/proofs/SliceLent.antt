-- Accesses of words that are lent leave them lent.
use Rattle.std.proofs.Common.{◌≡◌, List, [], ◌∷◌, length, ap, ◌∙◌}
use Rattle.rrs_memory.specs.declared.memories.slice.SliceMemory.{SliceMemory}
use Rattle.rrs_memory.specs.AccessLists.{Access, Read, Write, Makes, MakesExactly}
use Rattle.rrs_memory.specs.SliceBytes.{slice_reads, SliceWrites, StaysLent}

same_value : (old new : SliceMemory) → new ≡ old → StaysLent old new
same_value old new same = record {
  same_words = ap (λ m. m.words.ghost_name) same;
  same_base = ap (λ m. m.base) same;
  length_kept = ap (λ m. length m.words.now) same;
}

joined : (old mid new : SliceMemory) → StaysLent old mid → StaysLent mid new → StaysLent old new
joined old mid new first later = record {
  same_words = later.same_words ∙ first.same_words;
  same_base = later.same_base ∙ first.same_base;
  length_kept = later.length_kept ∙ first.length_kept;
}

made_lent : (accesses : List Access) (old new : SliceMemory) → Makes slice_reads SliceWrites accesses old new → StaysLent old new
made_lent [] old new made = same_value old new made
made_lent (Read a size answer ∷ accesses) old new (mid, did, made) =
    joined old mid new (same_value old mid did) (made_lent accesses mid new made)
made_lent (Write a size value answer ∷ accesses) old new (mid, did, made) =
    joined old mid new did.lent (made_lent accesses mid new made)

-- exactly some accesses, whichever are meant
pub still_lent : (IsMeant : List Access → Type 0) (old new : SliceMemory) → MakesExactly slice_reads SliceWrites IsMeant old new → StaysLent old new
still_lent IsMeant old new exactly = made_lent exactly.accesses old new exactly.made
