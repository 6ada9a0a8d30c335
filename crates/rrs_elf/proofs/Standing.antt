-- What stands as a load goes on.
use Rattle.std.proofs.Common.{◌≡◌, ◌≢◌, ℕ, suc, ◌+◌, ◌-◌, ◌<◌, ◌≤◌, ◌^◌, ◌⊎◌, inl, inr, Bool, true, min, List, [], ◌∷◌, ◌++◌, length, Some, sym, ◌∙◌, ap, subst, arith, Option}
use Rattle.std.proofs.lemmas.Bool.Decides.{nat_tests}
use Rattle.rrs_memory.specs.declared.MemAccessSize.{MemAccessSize}
use Rattle.rrs_memory.specs.Bytes.{ByteMap}
use Rattle.rrs_memory.specs.AccessLists.{Access, Makes}
use Rattle.rrs_memory.specs.Loading.{Loaded}
use Rattle.rrs_memory.proofs.ByteLemmas.{outside_from_none}
use Rattle.rrs_elf.specs.Headers.{e_phnum, p_filesz, segment_start}
use Rattle.rrs_elf.specs.declared.code_units.CodeUnit.{CodeUnit}
use Rattle.rrs_elf.specs.declared.program_headers.Addresses.{Addresses}
use Rattle.rrs_elf.specs.Executables.{HasAddress, IsExecutableIn}
use Rattle.rrs_elf.specs.Loading.{segment_byte, segment_bytes, loaded_size, Stands}
use Rattle.rrs_elf.proofs.SegmentBytes.{length-segment_bytes, at-segment_bytes}

-- a byte that is loaded has an address of its segment
pub has_loaded : (at : Addresses) (file : List ℕ) (i j : ℕ) → i < e_phnum file → j < loaded_size file i → HasAddress at file i (segment_start at file i + j)
has_loaded at file i j numbered below = record {
  loaded = record { numbered = numbered; of_type = grind (arith, nat_tests, below) };
  from_start = omega arith;
  before_end = grind (arith, nat_tests, below);
}

-- it lies below 2 ^ 32
pub loaded_low : (unit : CodeUnit) (at : Addresses) (file : List ℕ) (i j : ℕ) → IsExecutableIn unit at file → i < e_phnum file → j < loaded_size file i → segment_start at file i + j < 2 ^ 32
loaded_low unit at file i j is numbered below =
    let has = has_loaded at file i j numbered below in
    let end = has.before_end in
    let low = is.addresses i has.loaded in
    omega arith

-- the first k bytes more, of the next segment
pub Stands-part : (unit : CodeUnit) (at : Addresses) (file : List ℕ) (old mid new : ByteMap) (writable writable' : ℕ → Bool) (n k : ℕ) → IsExecutableIn unit at file → n < e_phnum file → k ≤ loaded_size file n
    → Stands at file old mid writable n 0 → writable' ≡ writable → Loaded mid new writable' (segment_start at file n) (segment_bytes file n k) → Stands at file old new writable n k
Stands-part unit at file old mid new writable writable' n k is numbered within before kept loaded =
    let many = length-segment_bytes file n k in
    let start : ℕ = segment_start at file n in
    record {
      segments = λ i j below inside.
          let a : ℕ = segment_start at file i + j in
          let mine = has_loaded at file i j (omega (arith, below)) inside in
          let outside : (a < start) ⊎ (start + length (segment_bytes file n k) ≤ a) =
          elim (place a start k) [
            | inl low ↦ inl low
            | inr rest ↦ elim rest [
              | inl high ↦ inr (omega (arith, high, many))
              | inr here ↦
                  let other = has_loaded at file n (a - start) numbered (omega (arith, here.1)) in
                  let again : start + (a - start) ≡ a = omega (arith, here.0) in
                  let same = is.apart i n a mine (subst (λ b. HasAddress at file n b) again other) in
                  absurd (omega (arith, same, below))
            ]
          ] in
          loaded.others a outside ∙ before.segments i j below inside;
      part = λ j below. loaded.loaded j (omega (arith, below, many)) ∙ ap Some (at-segment_bytes file n k j below);
      segments_writable = before.segments_writable;
      part_writable = λ j below. ap (λ w. w (start + j)) (sym kept) ∙ loaded.writable_there j (omega (arith, below, many));
      others = λ a none none_here.
          let outside = outside_from_none start (length (segment_bytes file n k)) a (λ j below e. none_here j (omega (arith, below, many)) (sym e)) in
          loaded.others a outside ∙ before.others a none (λ j below. absurd (omega (arith, below)));
      mapped = λ a. loaded.mapped a ∙ before.mapped a;
    }
  where
    place : (a start k : ℕ) → (a < start) ⊎ ((start + k ≤ a) ⊎ ((start ≤ a) × (a - start < k)))
    place a start k = grind arith

-- the zeros after the bytes of the file, of a segment whose addresses were 0
pub Stands-rest : (unit : CodeUnit) (at : Addresses) (file : List ℕ) (old new : ByteMap) (writable : ℕ → Bool) (n k : ℕ) → IsExecutableIn unit at file → n < e_phnum file
    → k ≡ min (p_filesz file n) (loaded_size file n)
    → ((j : ℕ) → j < loaded_size file n → old (segment_start at file n + j) ≡ Some 0)
    → ((j : ℕ) → j < loaded_size file n → writable (segment_start at file n + j) ≡ true)
    → Stands at file old new writable n k → Stands at file old new writable n (loaded_size file n)
Stands-rest unit at file old new writable n k is numbered size zeros room stands = record {
  segments = stands.segments;
  part = λ j below. elim (split j k) [ inl low ↦ stands.part j low | inr high ↦ stands.others (segment_start at file n + j) (apart j below) (λ j' below' same. absurd (omega (arith, same, high, below'))) ∙ zeros j below ∙ ap Some (zero_behind j below high) ];
  segments_writable = stands.segments_writable;
  part_writable = room;
  others = λ a none none_here. stands.others a none (λ j below. none_here j (omega (arith, below, size)));
  mapped = stands.mapped;
}
  where
    split : (j k : ℕ) → (j < k) ⊎ (k ≤ j)
    split j k = grind arith

    zero_behind : (j : ℕ) → j < loaded_size file n → k ≤ j → 0 ≡ segment_byte file n j
    zero_behind j below high =
        let behind : p_filesz file n ≤ j = omega (arith, size, high, below) in
        grind (arith, nat_tests, behind)

    apart : (j : ℕ) → j < loaded_size file n → (i j' : ℕ) → i < n → j' < loaded_size file i → segment_start at file n + j ≢ segment_start at file i + j'
    apart j below i j' before inside same =
        let mine = has_loaded at file i j' (omega (arith, before, numbered)) inside in
        let other = has_loaded at file n j numbered below in
        let shared = is.apart i n (segment_start at file i + j') mine (subst (λ a. HasAddress at file n a) same other) in
        omega (arith, shared, before)

-- the whole of a segment
pub Stands-next : (at : Addresses) (file : List ℕ) (old new : ByteMap) (writable : ℕ → Bool) (n : ℕ) → Stands at file old new writable n (loaded_size file n) → Stands at file old new writable (suc n) 0
Stands-next at file old new writable n stands = record {
  segments = λ i j below inside. elim (less i n below) [ inl earlier ↦ stands.segments i j earlier inside | inr same ↦ subst (λ i. new (segment_start at file i + j) ≡ Some (segment_byte file i j)) (sym same) (stands.part j (rw same at inside)) ];
  part = λ j below. absurd (omega (arith, below));
  segments_writable = λ i j below inside. elim (less i n below) [ inl earlier ↦ stands.segments_writable i j earlier inside | inr same ↦ subst (λ i. writable (segment_start at file i + j) ≡ true) (sym same) (stands.part_writable j (rw same at inside)) ];
  part_writable = λ j below. absurd (omega (arith, below));
  others = λ a none none_here. stands.others a (λ i j below. none i j (omega (arith, below))) (λ j below. none n j (omega arith) below);
  mapped = stands.mapped;
}
  where
    less : (i n : ℕ) → i < suc n → (i < n) ⊎ (i ≡ n)
    less i n below = grind arith

-- lists of accesses one after the other
module _ {M : Type 0} (reads : M → ℕ → MemAccessSize → M → Option ℕ → Type 0) (writes : M → ℕ → MemAccessSize → ℕ → M → Bool → Type 0) where
  pub Makes-join : (xs ys : List Access) (old mid new : M) → Makes reads writes xs old mid → Makes reads writes ys mid new → Makes reads writes (xs ++ ys) old new
  Makes-join [] ys old mid new first second = subst (λ (m : M). Makes reads writes ys m new) first second
  Makes-join (x ∷ xs) ys old mid new first second = (first.0, first.1, Makes-join xs ys first.0 mid new first.2 second)
