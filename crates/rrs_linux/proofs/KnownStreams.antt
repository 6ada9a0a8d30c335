-- Bytes that are taken to a log, one after another, and bytes of a known input that are given.
use Rattle.std.proofs.Common.{◌≡◌, ℕ, zero, suc, ◌+◌, ◌-◌, ◌^◌, ◌<◌, Bool, true, List, [], ◌∷◌, ◌++◌, length, take, drop, slice_index, Option, Some, refl, sym, subst, ap, ◌∙◌, append_assoc, arith, Vec, vec_capacity}
use Rattle.std.proofs.lemmas.List.{length-take-le, take_more, take-append-drop}
use Rattle.std.specs.declared.alloc.Global.{Global}
use Rattle.rrs_lib.specs.declared.MemAccessSize.{MemAccessSize}
use Rattle.rrs_lib.specs.declared.MemAccessSize.TheVariants.{Byte}
use Rattle.rrs_lib.specs.Bytes.{ByteMap, IsLawful, store}
use Rattle.rrs_lib.specs.AccessLists.{Makes}
use Rattle.rrs_lib.specs.Loading.{Loaded, byte_writes}
use Rattle.rrs_fast.specs.Serving.{MakesSome}
use Rattle.rrs_linux.specs.Transfers.{Stands, byte_reads}
use Rattle.rrs_linux.specs.Giving.{GivingEnds, GivesText}
use Rattle.rrs_linux.specs.Recording.{TakingEnds, TakesOutput}
use Rattle.rrs_memory.proofs.LoadLemmas.{Loaded-next, writes-next}
use Rattle.rrs_linux.proofs.Written.{Stands-append}

-- ---- taken

-- one byte stands
Stands-one : (bytes : ByteMap) (a byte : ℕ) → bytes a ≡ Some byte → Stands bytes a (byte ∷ [])
Stands-one bytes a byte there zero less = let here : a + 0 ≡ a = omega arith in ap bytes here ∙ there
Stands-one bytes a byte there (suc i) less = absurd (omega (arith, less))

-- one byte more stands
pub Stands-more : (bytes : ByteMap) (a n byte : ℕ) (text : List ℕ) → length text ≡ n → Stands bytes a text
    → bytes (a + n) ≡ Some byte → Stands bytes a (text ++ byte ∷ [])
Stands-more bytes a n byte text long stands there =
    Stands-append bytes a n text (byte ∷ []) long stands (Stands-one bytes (a + n) byte there)

module _ {M : Type 0} {reads : M → ℕ → MemAccessSize → M → Option ℕ → Type 0}
    {writes : M → ℕ → MemAccessSize → ℕ → M → Bool → Type 0} where
  pub takes_text : {bytes : ByteMap} {a count n answer : ℕ} {text : List ℕ} {m m' : M} (old new : Vec ℕ Global)
      → Stands bytes a text → new.items ≡ old.items ++ text → vec_capacity new ≡ vec_capacity old
      → TakingEnds bytes a count (vec_capacity old - length old.items) text n answer
      → Makes reads writes (byte_reads bytes a n) m m'
      → MakesSome reads writes (TakesOutput bytes a count old new answer) m m'
  takes_text {bytes = bytes} {a = a} {n = n} {text = text} old new stands appended kept ended made = record {
    accesses = byte_reads bytes a n;
    these =
        (record { text = text; stands = stands; appended = appended; reads = n; ended = ended; accessed = refl }, kept);
    made = made;
  }

  -- ---- given

  pub gives_text : {writable : ℕ → Bool} {bytes bytes' : ByteMap} {a count answer : ℕ} {m m' : M} (n : ℕ)
      (input written : List ℕ) → Loaded bytes bytes' writable a (take n input)
      → GivingEnds writable a count input (take n input) (byte_writes writable a written) answer
      → Makes reads writes (byte_writes writable a written) m m'
      → MakesSome reads writes (GivesText writable bytes bytes' a count input (drop n input) answer) m m'
  gives_text {writable = writable} {a = a} n input written loaded ended made = record {
    accesses = byte_writes writable a written;
    these = record { text = take n input; loaded = loaded; consumed = sym (take-append-drop n input); ended = ended };
    made = made;
  }

module _ {M : Type 0} (reads : M → ℕ → MemAccessSize → M → Option ℕ → Type 0)
    (writes : M → ℕ → MemAccessSize → ℕ → M → Bool → Type 0) {writable writable' : ℕ → Bool} (a n : ℕ) {value : ℕ}
    {answer : Bool} (input : List ℕ) (m mid new : M) (within : n < length input) (low : a + n < 2 ^ 32)
    (same : value ≡ slice_index input n) (made : Makes reads writes (byte_writes writable a (take n input)) m mid)
    (kept : writable' ≡ writable) (granted : answer ≡ writable' (a + n + 0))
    (did : writes mid (a + n) Byte value new answer) where
  -- how long what is given is
  placed_at : a + length (take n input) ≡ a + n
  placed_at = ap (λ k. a + k) (length-take-le n input (omega (arith, within)))

  -- the write of the byte after those that were given
  pub written_next : Makes reads writes (byte_writes writable a (take n input ++ slice_index input n ∷ [])) m new
  written_next =
      writes-next reads writes writable a (a + n) (slice_index input n) value answer writable'
      (take n input) m mid new made placed_at low same kept granted did

  -- one byte more is given
  pub given_next : {old mid_bytes new_bytes : ByteMap} → slice_index input n < 256
      → Loaded old mid_bytes writable a (take n input) → answer ≡ true → IsLawful mid_bytes writable' (a + n) 1
      → new_bytes ≡ store mid_bytes (a + n) 1 value → Loaded old new_bytes writable a (take (n + 1) input)
      × Makes reads writes (byte_writes writable a (take (n + 1) input)) m new
  given_next {old = old} {mid_bytes = mid_bytes} {new_bytes = new_bytes} small loaded allowed lawful stored =
      let more : take (n + 1) input ≡ take n input ++ slice_index input n ∷ [] = take_more input n 0 within in
      let next = Loaded-next old mid_bytes new_bytes writable writable' a (slice_index input n) value (a + n)
      (take n input) loaded placed_at low small same kept (sym allowed ∙ granted) lawful stored in (
        subst (Loaded old new_bytes writable a) (sym more) next,
        subst (λ l. Makes reads writes (byte_writes writable a l) m new) (sym more) written_next,
      )

-- what is left of a list begins with the element there
pub left_after : (input : List ℕ) (n : ℕ) → n < length input
    → input ≡ take n input ++ slice_index input n ∷ drop (n + 1) input
left_after input n within =
    sym (take-append-drop (n + 1) input) ∙ ap (λ l. l ++ drop (n + 1) input) (take_more input n 0 within)
    ∙ append_assoc (take n input) (slice_index input n ∷ []) (drop (n + 1) input)
