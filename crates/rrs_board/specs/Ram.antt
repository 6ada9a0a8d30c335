-- The words of RAM: as many as there is room for, which are 0 until they are written.
use Rattle.std.specs.Prelude.{◌≡◌, ℕ, zero, suc, List, [], ◌∷◌, length}
use Rattle.std.proofs.Common.{ap, refl}
use Rattle.rrs_memory.specs.declared.memories.VecMemory.{VecMemory}
use Rattle.rrs_fast.specs.declared.zero_words.ZeroWords.{ZeroWords}

-- the first n of some words and zeros after them
unfoldable pub padded : ℕ → List ℕ → List ℕ
padded zero words = []
padded (suc n) [] = 0 ∷ padded n []
padded (suc n) (w ∷ words) = w ∷ padded n words

pub padded_length : (n : ℕ) (words : List ℕ) → n ≡ length (padded n words)
unfolding padded
padded_length zero words = refl
padded_length (suc n) [] = ap suc (padded_length n [])
padded_length (suc n) (w ∷ words) = ap suc (padded_length n words)

-- the memory of all of them
abbrev pub all_words : ZeroWords → VecMemory
all_words z = record {
  mem = record {
    ptr = z.words.mem.ptr;
    len = z.room;
    cap = z.words.mem.cap;
    alloc = z.words.mem.alloc;
    items = padded z.room z.words.mem.items;
    ok = (padded_length z.room z.words.mem.items, z.reserved);
    small = z.words.mem.small;
  };
}
