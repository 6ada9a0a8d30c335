-- When two machines agree: in all that a step depends on. And when a memory of pages holds what one
-- list of words does.
use Rattle.std.specs.Prelude.{◌≡◌, ℕ, false, List, All}
use Rattle.std.specs.List.{flat_map, range_with_len}
use Rattle.std.specs.Map.{values_of}
use Rattle.rrs_lib.specs.Machine.{State}
use Rattle.rrs_extra.specs.Pages.{Page, paged_layout}

-- Registers 1 to 31, the program counter, the bytes and the writable addresses are equal. The
-- register that was written last may differ: each step begins with none.
pub record Agree (s t : State) : Type 0 where
  pub registers : s.registers ≡ t.registers
  pub pc : s.pc ≡ t.pc
  pub bytes : s.bytes ≡ t.bytes
  pub writable : s.writable ≡ t.writable

-- the pages 0 to k - 1 and no other, with no word that is read-only
pub record AreOpenPages (k : ℕ) (pages : List Page) : Type 0 where
  pub numbers : paged_layout pages ≡ range_with_len 0 k
  pub open_words : All (λ c. All (λ mark. mark ≡ false) c.read_only) (values_of pages)

-- the words of the pages, one after another
abbrev pub words_of : List Page → List ℕ
words_of pages = flat_map (λ c. c.words) (values_of pages)
