-- What a traced memory has after the accesses of a step: what the fetch read, and the access after it. The memory that
-- is lent made the same accesses.
use Rattle.std.proofs.Common.{◌≡◌, ℕ, ◌==◌, ◌%◌, List, [], ◌∷◌, Bool, true, false, Option, None, if◌then◌else◌, refl, sym, subst, ap, ◌∙◌}
use Rattle.std.proofs.lemmas.Bool.{cond-false, ne_eqb}
use Rattle.rrs_lib.specs.declared.MemAccessSize.{MemAccessSize}
use Rattle.rrs_lib.specs.Encodings.{Fields, I, S}
use Rattle.rrs_lib.specs.Table.{table, Action, Load, Store}
use Rattle.rrs_lib.specs.Machine.{State}
use Rattle.rrs_lib.specs.Steps.{next_word}
use Rattle.rrs_lib.specs.Accesses.{Access, Read, Write, Makes, AccessesOf, OfNone, OfFetch, OfRow, MakesExactly, fetch, accesses_by}
use Rattle.rrs_trace.specs.declared.traced.MemoryAccess.{MemoryAccess}
use Rattle.rrs_trace.specs.declared.traced.TracedMemory.{TracedMemory}
use Rattle.rrs_trace.specs.Retired.{no_access, log_of, followed, after_fetch}
use Rattle.rrs_trace.specs.Traced.{Traces, read_by, traced_reads, traced_writes}

-- the word and the access that are kept, by the accesses and by what was kept before
abbrev pub kept : List Access → Bool → Option ℕ → MemoryAccess → Option ℕ × MemoryAccess
kept [] is_fetch insn access = (insn, access)
kept (x ∷ xs) true insn access = kept xs false (read_by x) access
kept (x ∷ xs) false insn access = kept xs false insn (followed access x)

kept_one : (x : Access) (xs : List Access) (b : Bool) (insn : Option ℕ) (access : MemoryAccess)
    → kept xs false (if b then read_by x else insn) (if b then access else followed access x) ≡ kept (x ∷ xs) b insn access
kept_one x xs true insn access = refl
kept_one x xs false insn access = refl

-- the first access that is kept
followed_first : (x : Access) → followed no_access x ≡ log_of x
followed_first (Read a size answer) = refl
followed_first (Write a size v true) = refl
followed_first (Write a size v false) = refl

-- of a step these are the word that was fetched and the access after it
kept_later : (aligned : Bool) (x y : Access)
    → kept (if aligned then y ∷ [] else []) false (read_by x) no_access
    ≡ (read_by x, after_fetch (x ∷ (if aligned then y ∷ [] else [])))
kept_later true x y = ap (λ m. (read_by x, m)) (followed_first y)
kept_later false x y = refl

kept_row : (action : Action) (f : Fields) (s : State) → kept (fetch s ∷ accesses_by action f s) true None no_access
    ≡ (read_by (fetch s), after_fetch (fetch s ∷ accesses_by action f s))
kept_row (Load n extended) (I f) s = kept_later _ (fetch s) _
kept_row (Store n) (S f) s = kept_later _ (fetch s) _
kept_row _ _ s = refl

-- The word and the access that are kept of these accesses, from the fetch on.
abbrev pub Keeps : Option ℕ → List Access → Type 0
Keeps word xs = kept xs true None no_access ≡ (word, after_fetch xs)

-- of no access, and of the fetch with one, with two, or with none after it
pub keeps_none : Keeps None []
keeps_none = refl

pub keeps_fetch : (x : Access) → Keeps (read_by x) (x ∷ [])
keeps_fetch x = refl

pub keeps_one : (x y : Access) → Keeps (read_by x) (x ∷ y ∷ [])
keeps_one x y = ap (λ m. (read_by x, m)) (followed_first y)

pub keeps_two : (x y z : Access) → Keeps (read_by x) (x ∷ y ∷ z ∷ [])
keeps_two x y z = ap (λ m. (read_by x, followed m z)) (followed_first y)

pub kept_step : (s : State) (xs : List Access) → AccessesOf s xs → Keeps (next_word s) xs
kept_step s xs (OfNone odd are) =
    subst (Keeps (next_word s)) (sym are) (ap (λ w. (w, no_access)) (sym (cond-false (s.pc % 4 == 0) _ None (ne_eqb _ _ odd))))
kept_step s xs (OfFetch aligned outside are) = subst (Keeps (next_word s)) (sym are) (rw aligned refl)
kept_step s xs (OfRow w row f aligned read is are) =
    subst (Keeps (next_word s)) (sym are) (rw aligned (kept_row (table row).action f s))

module _ {M : Type 0} (reads : M → ℕ → MemAccessSize → M → Option ℕ → Type 0)
    (writes : M → ℕ → MemAccessSize → ℕ → M → Bool → Type 0) where
  -- what the accesses of a traced memory come to
  record Kept (xs : List Access) (old new : TracedMemory M) : Type 0 where
    inner : Makes reads writes xs old.memory.now new.memory.now
    same_memory : new.memory.ghost_name ≡ old.memory.ghost_name
    keeps : (new.insn, new.access) ≡ kept xs old.is_fetch old.insn old.access

  one_more : (x : Access) (xs : List Access) (old mid new : TracedMemory M)
      → (Makes reads writes xs mid.memory.now new.memory.now
      → Makes reads writes (x ∷ xs) old.memory.now new.memory.now)
      → Traces x old mid → Kept xs mid new → Kept (x ∷ xs) old new
  one_more x xs old mid new goes t rest = record {
    inner = goes rest.inner;
    same_memory = rest.same_memory ∙ t.same_memory;
    keeps = rest.keeps ∙ (λ i. kept xs (t.past_fetch i) (t.insn i) (t.latest i))
        ∙ kept_one x xs old.is_fetch old.insn old.access;
  }

  makes_kept : (xs : List Access) (old new : TracedMemory M)
      → Makes (traced_reads reads) (traced_writes writes) xs old new → Kept xs old new
  makes_kept [] old new made = record {
    inner = ap (λ m. m.memory.now) made;
    same_memory = ap (λ m. m.memory.ghost_name) made;
    keeps = ap (λ m. (m.insn, m.access)) made;
  }
  makes_kept (Read a size answer ∷ xs) old new (mid, did, made) =
      one_more _ xs old mid new (λ rest. (mid.memory.now, did.0, rest)) did.1 (makes_kept xs mid new made)
  makes_kept (Write a size value answer ∷ xs) old new (mid, did, made) =
      one_more _ xs old mid new (λ rest. (mid.memory.now, did.0, rest)) did.1 (makes_kept xs mid new made)

  module _ (P : List Access → Type 0) (old new : TracedMemory M)
      (exactly : MakesExactly (traced_reads reads) (traced_writes writes) P old new) where
    -- the memory that is lent makes the same accesses, and stays the one that is lent
    pub inner_exactly : MakesExactly reads writes P old.memory.now new.memory.now
    inner_exactly =
        let inner = (makes_kept exactly.accesses old new exactly.made).inner in
        record { accesses = exactly.accesses; these = exactly.these; only = exactly.only; made = inner }

    pub still_lent : new.memory.ghost_name ≡ old.memory.ghost_name
    still_lent = (makes_kept exactly.accesses old new exactly.made).same_memory

  -- what was armed for a step keeps the word and the access of its accesses
  pub those_kept : (P : List Access → Type 0) (word : Option ℕ) → ((xs : List Access) → P xs → Keeps word xs)
      → (old new : TracedMemory M) → old.is_fetch ≡ true → old.insn ≡ None → old.access ≡ no_access
      → MakesExactly (traced_reads reads) (traced_writes writes) P old new
      → (new.insn ≡ word) × ((xs : List Access) → P xs → new.access ≡ after_fetch xs)
  those_kept P word of_those old new armed no_word empty exactly =
      let xs = exactly.accesses in
      let keeps = (makes_kept xs old new exactly.made).keeps
      ∙ (λ i. kept xs (armed i) (no_word i) (empty i)) ∙ of_those xs exactly.these in
      (ap (λ x. x.0) keeps, λ xs are. ap (λ x. x.1) keeps ∙ ap after_fetch (sym (exactly.only xs are)))

  pub step_kept : (old new : TracedMemory M) → old.is_fetch ≡ true → old.insn ≡ None → old.access ≡ no_access
      → (s : State) → MakesExactly (traced_reads reads) (traced_writes writes) (AccessesOf s) old new
      → (new.insn ≡ next_word s) × ((xs : List Access) → AccessesOf s xs → new.access ≡ after_fetch xs)
  step_kept old new armed no_word empty s exactly =
      those_kept (AccessesOf s) (next_word s) (kept_step s) old new armed no_word empty exactly
