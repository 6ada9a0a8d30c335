-- A value behind a box: after a call that kept its type, and after any accesses of a memory.
use Rattle.std.proofs.Common.{◌≡◌, ℕ, List, [], ◌∷◌, Option, Bool, refl, sym, subst, ap}
use Rattle.std.specs.declared.dyn_box.DynBox.{DynBox}
use Rattle.rrs_memory.specs.declared.MemAccessSize.{MemAccessSize}
use Rattle.rrs_memory.specs.Bytes.{ByteMap, width, little_endian, ReadsArePure}
use Rattle.rrs_memory.specs.AccessLists.{Access, Read, Write, Makes}

-- the box holds another value of the type that it held before, and what was said of the two values is said of that type
pub rebuilt : {I : Type 0} {T : I → Type 0} {B : Type 0} (make : (i : I) → T i → B) (P : (i : I) → T i → T i → Type 0) (lent before : (i : I) × T i) → lent ≡ before → (y : T lent.0) → P lent.0 lent.1 y → (m : T before.0) × P before.0 before.1 m × (make lent.0 y ≡ make before.0 m)
rebuilt {I} {T} {B} make P lent before same y p =
    subst (λ (x : (i : I) × T i). (m : T x.0) × P x.0 x.1 m × (make lent.0 y ≡ make x.0 m)) same (y, p, refl)

-- a memory of type B is one behind a box
module _ {I A B : Type 0} {T : I → Type 0} (memory : B → DynBox I A T) (bytes : (i : I) → T i → ByteMap)
    (reads : (i : I) → T i → ℕ → MemAccessSize → T i → Option ℕ → Type 0)
    (writes : (i : I) → T i → ℕ → MemAccessSize → ℕ → T i → Bool → Type 0) where
  abbrev pub box_bytes : B → ByteMap
  box_bytes m = bytes (memory m).vtable (memory m).value

  abbrev pub box_reads : B → ℕ → MemAccessSize → B → Option ℕ → Type 0
  box_reads old address size new answer =
      (value : T (memory old).vtable) × reads (memory old).vtable (memory old).value address size value answer
      × (memory new ≡ record (memory old) { value = value })

  abbrev pub box_writes : B → ℕ → MemAccessSize → ℕ → B → Bool → Type 0
  box_writes old address size stored new answer =
      (value : T (memory old).vtable) × writes (memory old).vtable (memory old).value address size stored value answer
      × (memory new ≡ record (memory old) { value = value })

  -- accesses leave a value of the same type, by the same accesses of it
  abbrev Leaves : List Access → DynBox I A T → B → Type 0
  Leaves xs box new =
      (value : T box.vtable) × Makes (reads box.vtable) (writes box.vtable) xs box.value value × (memory new ≡ record box { value = value })

  leaves : (xs : List Access) (old new : B) → Makes box_reads box_writes xs old new → Leaves xs (memory old) new
  leaves [] old new made = ((memory old).value, refl, ap memory made)
  leaves (Read a size answer ∷ xs) old new made =
      let did = made.1 in
      let rest = subst (λ box. Leaves xs box new) did.2 (leaves xs made.0 new made.2) in
      (rest.0, (did.0, did.1, rest.1), rest.2)
  leaves (Write a size value answer ∷ xs) old new made =
      let did = made.1 in
      let rest = subst (λ box. Leaves xs box new) did.2 (leaves xs made.0 new made.2) in
      (rest.0, (did.0, did.1, rest.1), rest.2)

  -- a read that the value may answer so
  abbrev MayRead : ℕ → MemAccessSize → DynBox I A T → Type 0
  MayRead a size box =
      (value : T box.vtable) × reads box.vtable box.value a size value (little_endian (bytes box.vtable box.value) a (width size))
      × (box ≡ record box { value = value })

  -- where the value calls its reads pure
  pub box_pure : (m : B) (a : ℕ) (lent : (i : I) × T i) → lent ≡ ((memory m).vtable, (memory m).value)
      → ReadsArePure (bytes lent.0) (reads lent.0) (writes lent.0) lent.1 a → ReadsArePure box_bytes box_reads box_writes m a
  box_pure m a lent same pure = λ xs later made size al.
      let P : ((i : I) × T i) → Type 0 = λ x. ReadsArePure (bytes x.0) (reads x.0) (writes x.0) x.1 a in
      let inner = subst P same pure in
      let there = leaves xs m later made in
      subst (MayRead a size) (sym there.2) (there.0, inner xs there.0 there.1 size al, refl)
