-- A path that is read byte by byte.
use Rattle.std.proofs.Common.{◌≡◌, ◌≢◌, ℕ, ◌+◌, ◌^◌, ◌<◌, ◌≤◌, Bool, List, length, take, get_or, set, Option, None, Some, Ok, Err, refl, sym, ap, ◌∙◌, arith, below_more, get_or-set_other, get_or-set_same}
use Rattle.std.proofs.lemmas.List.{get_or-take, length-take-le}
use Rattle.rrs_lib.specs.declared.MemAccessSize.{MemAccessSize}
use Rattle.rrs_lib.specs.Bytes.{ByteMap}
use Rattle.rrs_lib.specs.AccessLists.{Makes}
use Rattle.rrs_fast.specs.Serving.{MakesSome}
use Rattle.rrs_linux.specs.Requests.{error}
use Rattle.rrs_linux.specs.Transfers.{byte_reads}
use Rattle.rrs_files.specs.Paths.{IsPart, IsText, IsEnded, IsUnmapped, PassesEnd, IsLong}

-- one byte more, which is not 0
pub some_more : (n byte : ℕ) (text : List ℕ) → ((i : ℕ) → i < n → get_or text i 0 ≢ 0) → n < length text
    → byte ≢ 0 → (i : ℕ) → i < n + 1 → get_or (set text n byte) i 0 ≢ 0
some_more n byte text so_far room not_zero =
    below_more _ _ (λ k h. let ne : k ≢ n = omega arith in rw get_or-set_other (so_far k h))
    (rw get_or-set_same not_zero)

module _ {M : Type 0} (reads : M → ℕ → MemAccessSize → M → Option ℕ → Type 0)
    (writes : M → ℕ → MemAccessSize → ℕ → M → Bool → Type 0) (bytes : ByteMap) (a size : ℕ) (text : List ℕ)
    (long : size ≤ length text)
    (stands : (i : ℕ) → i < size → bytes (a + i) ≡ Some (get_or text i 0))
    (some : (i : ℕ) → i < size → get_or text i 0 ≢ 0) where
  n : length (take size text) ≡ size
  n = length-take-le size text long

  -- what was read so far is a part of the path
  part : IsPart bytes a (take size text)
  part = (
    (λ i h. stands i (omega (arith, h, n)) ∙ ap Some (sym (get_or-take size text i 0 (omega (arith, h, n))))),
    (λ i h e. some i (omega (arith, h, n)) (sym (get_or-take size text i 0 (omega (arith, h, n))) ∙ e)),
  )

  -- and the next byte is 0
  pub ended : {m m' : M} → size < 4096 → bytes (a + size) ≡ Some 0
      → Makes reads writes (byte_reads bytes a (size + 1)) m m'
      → MakesSome reads writes (IsText bytes a (Ok (take size text))) m m'
  ended less zero_there made = record {
    accesses = byte_reads bytes a (size + 1);
    these = IsEnded (take size text) part (omega (arith, n, less)) (ap (λ k. bytes (a + k)) n ∙ zero_there)
        (ap (λ k. byte_reads bytes a (k + 1)) (sym n)) refl;
    made = made;
  }

  -- and is not mapped
  pub unmapped : {m m' : M} → size < 4096 → bytes (a + size) ≡ None
      → Makes reads writes (byte_reads bytes a (size + 1)) m m'
      → MakesSome reads writes (IsText bytes a (Err (error 14))) m m'
  unmapped less none made = record {
    accesses = byte_reads bytes a (size + 1);
    these = IsUnmapped (take size text) part (omega (arith, n, less)) (ap (λ k. bytes (a + k)) n ∙ none)
        (ap (λ k. byte_reads bytes a (k + 1)) (sym n)) refl;
    made = made;
  }

  -- and there is none
  pub past : {m m' : M} → size < 4096 → a + size ≡ 2 ^ 32
      → Makes reads writes (byte_reads bytes a size) m m'
      → MakesSome reads writes (IsText bytes a (Err (error 14))) m m'
  past less end made = record {
    accesses = byte_reads bytes a size;
    these = PassesEnd (take size text) part (omega (arith, n, less)) (omega (arith, n, end))
        (ap (byte_reads bytes a) (sym n)) refl;
    made = made;
  }

  -- and it is too long
  pub too_long : {m m' : M} → size ≡ 4096 → Makes reads writes (byte_reads bytes a size) m m'
      → MakesSome reads writes (IsText bytes a (Err (error 36))) m m'
  too_long all made = record {
    accesses = byte_reads bytes a size;
    these = IsLong (take size text) part (n ∙ all) (ap (byte_reads bytes a) (sym n)) refl;
    made = made;
  }
