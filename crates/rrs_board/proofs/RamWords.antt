-- Writes of RAM are writes of its words.
use Rattle.std.proofs.Common.{◌≡◌, ℕ, ◌+◌, ◌-◌, ◌*◌, ◌/◌, ◌%◌, ◌^◌, ◌<◌, List, Bool, true, false, length, refl, sym, subst, arith}
use Rattle.std.proofs.lemmas.Bool.Decides.{nat_tests}
use Rattle.rrs_memory.specs.declared.MemAccessSize.{MemAccessSize}
use Rattle.rrs_memory.specs.declared.memories.VecMemory.{VecMemory}
use Rattle.rrs_memory.specs.Bytes.{width, all_writable}
use Rattle.rrs_memory.specs.VecBytes.{lies_in_words, VecWrites}
use Rattle.rrs_memory.proofs.ByteLemmas.{write-allowed}
use Rattle.rrs_memory.proofs.Regions.{aligned_below}
use Rattle.rrs_board.specs.Registers.{ram_start, RamWrites}

-- a write that is refused leaves the words
refused_words : (ram : VecMemory) (a : ℕ) (size : MemAccessSize) (value : ℕ) → VecWrites ram a size value ram false
refused_words ram a size value = record {
  written = tt;
  refused = refl;
  length_kept = refl;
  room_kept = refl;
  others_kept = λ i other. refl;
}

pub of_words : {old new : VecMemory} {a : ℕ} {size : MemAccessSize} {value : ℕ} (answer : Bool) → RamWrites old a size value new answer
    → VecWrites old (a - ram_start) size value new answer
of_words true did = did.of_words.1
of_words {old = old} {a = a} {size = size} {value = value} false did =
    subst (λ m. VecWrites old (a - ram_start) size value m false) (sym did.refused) (refused_words old (a - ram_start) size value)

-- a write within the words is granted
pub within_words : (words : List ℕ) (a : ℕ) (size : MemAccessSize) → a % width size ≡ 0 → a / 4 < length words → a < 2 ^ 32
    → all_writable (lies_in_words words) a (width size) ≡ true
within_words words a size aligned within low = write-allowed (lies_in_words words) a (width size) (λ i below.
    let end : a + i < 4 * length words = aligned_below (4 * length words) a i size (omega arith) aligned below (omega (arith, within)) in
    let last : a + i < 2 ^ 32 = aligned_below (2 ^ 32) a i size (omega arith) aligned below low in
    grind (arith, nat_tests))
