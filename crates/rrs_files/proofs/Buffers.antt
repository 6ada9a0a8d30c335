-- Buffers that are written to a file, and calls that read a path first.
use Rattle.std.proofs.Common.{◌≡◌, ℕ, ◌+◌, ◌<◌, ◌≤◌, min, Bool, List, ◌++◌, length, Option, None, subst, ap, ◌∙◌, inl, inr, arith}
use Rattle.std.proofs.lemmas.Bool.{cases_lt}
use Rattle.rrs_lib.specs.declared.MemAccessSize.{MemAccessSize}
use Rattle.rrs_lib.specs.Bytes.{ByteMap}
use Rattle.rrs_lib.specs.AccessLists.{Access, Makes}
use Rattle.rrs_lib.proofs.Making.{Makes-append}
use Rattle.rrs_fast.specs.Serving.{MakesSome}
use Rattle.rrs_files.specs.Calls.{ReadsBuffer, IsWhole, IsCut}

-- as many bytes as were wanted, if none were copied though some were wanted
some_copied : (most size : ℕ) → size < most → (size ≡ 0 → most ≡ 0) → 0 < size
some_copied most size low some = elim (cases_lt 0 size) [
  | inl more ↦ more
  | inr none ↦ absurd (omega (arith, some (omega (arith, none)), low))
]

-- how far a buffer was read
pub buffer_read : (bytes : ByteMap) (a most size : ℕ) (text : List ℕ) → length text ≡ size → size ≤ most
    → (size < most → bytes (a + size) ≡ None) → (size ≡ 0 → most ≡ 0)
    → ReadsBuffer bytes a most text (min most (size + 1))
buffer_read bytes a most size text long within ended some = elim (cases_lt size most) [
  | inl low ↦
      IsCut (omega (arith, long, some_copied most size low some)) (omega (arith, long, low))
      (ap (λ k. bytes (a + k)) long ∙ ended low) (omega (arith, long, low))
  | inr high ↦ IsWhole (omega (arith, long, within, high)) (omega (arith, within, high))
]

module _ {M : Type 0} (reads : M → ℕ → MemAccessSize → M → Option ℕ → Type 0)
    (writes : M → ℕ → MemAccessSize → ℕ → M → Bool → Type 0) where
  -- accesses after others, of a memory whose bytes and rights are as they were
  pub later : {P : List Access → Type 0} (Q : (ℕ → Bool) → ByteMap → List Access → Type 0)
      (writable writable' : ℕ → Bool) (bytes bytes' : ByteMap) {m0 m1 m2 : M} (first : List Access)
      → writable' ≡ writable → bytes' ≡ bytes
      → ((xs : List Access) → Q writable bytes xs → P (first ++ xs))
      → Makes reads writes first m0 m1
      → MakesSome reads writes (Q writable' bytes') m1 m2 → MakesSome reads writes P m0 m2
  later Q writable writable' bytes bytes' {m0 = m0} {m1 = m1} {m2 = m2} first same_rights same_bytes joins before after =
      record {
        accesses = first ++ after.accesses;
        these = joins after.accesses (subst (λ w. Q w bytes after.accesses) same_rights
            (subst (λ b. Q writable' b after.accesses) same_bytes after.these));
        made = Makes-append reads writes first after.accesses m0 m1 m2 before after.made;
      }
