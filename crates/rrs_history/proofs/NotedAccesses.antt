-- What a memory that notes has after the accesses of a step: what takes the store back. The memory that is lent made
-- the same accesses, with a read before the store.
use Rattle.std.proofs.Common.{◌≡◌, ℕ, List, [], ◌∷◌, Bool, true, false, Option, None, if◌then◌else◌, refl, sym, subst, ap, ◌∙◌}
use Rattle.rrs_lib.specs.declared.MemAccessSize.{MemAccessSize}
use Rattle.rrs_lib.specs.Bytes.{ByteMap, width, little_endian}
use Rattle.rrs_lib.specs.Encodings.{Fields, I, S}
use Rattle.rrs_lib.specs.Table.{table, Action, Load, Store}
use Rattle.rrs_lib.specs.Machine.{State}
use Rattle.rrs_lib.specs.Accesses.{Access, Read, Write, Makes, AccessesOf, OfNone, OfFetch, OfRow, MakesExactly, accesses_by}
use Rattle.rrs_lib.proofs.Making.{AccessesOf-unique}
use Rattle.rrs_lib.proofs.Rows.{one_row_at_most}
use Rattle.rrs_history.specs.declared.noting.NotingMemory.{NotingMemory}
use Rattle.rrs_history.specs.declared.noting.Replaced.{Replaced}
use Rattle.rrs_history.specs.Changes.{stored_back, with_reads, NotedAccessesOf}
use Rattle.rrs_history.specs.Noting.{AreReplaced, noting_reads, noting_writes}

-- reads, and then one write at most
abbrev IsShort : List Access → Type 0
IsShort [] = Unit {0}
IsShort (Read a size answer ∷ xs) = IsShort xs
IsShort (Write a size value granted ∷ []) = Unit {0}
IsShort (Write a size value granted ∷ x ∷ xs) = ⊥

short_reads : (aligned : Bool) (a : ℕ) (size : MemAccessSize) (answer : Option ℕ)
    → IsShort (if aligned then Read a size answer ∷ [] else [])
short_reads true a size answer = tt
short_reads false a size answer = tt

short_writes : (aligned : Bool) (a : ℕ) (size : MemAccessSize) (v : ℕ) (granted : Bool)
    → IsShort (if aligned then Write a size v granted ∷ [] else [])
short_writes true a size v granted = tt
short_writes false a size v granted = tt

short_row : (action : Action) (f : Fields) (s : State) → IsShort (accesses_by action f s)
short_row (Load n extended) (I f) s = short_reads _ _ _ _
short_row (Store n) (S f) s = short_writes _ _ _ _ _
short_row _ _ s = tt

short_step : (s : State) (xs : List Access) → AccessesOf s xs → IsShort xs
short_step s xs (OfNone odd is) = subst IsShort (sym is) tt
short_step s xs (OfFetch aligned none is) = subst IsShort (sym is) tt
short_step s xs (OfRow w row f aligned found decodes is) = subst IsShort (sym is) (short_row (table row).action f s)

-- where nothing is replaced the map is as it was
pub none_replaced : (r : Replaced) (writable : ℕ → Bool) (old new : ByteMap) → r.size ≡ None → new ≡ old
    → AreReplaced r writable old new
none_replaced r writable old new none same =
    ap (λ (o : Option MemAccessSize). stored_back o r.address r.bytes writable new) none ∙ same

module _ {M : Type 0} (bytes : M → ByteMap) (writable : M → ℕ → Bool)
    (reads : M → ℕ → MemAccessSize → M → Option ℕ → Type 0)
    (writes : M → ℕ → MemAccessSize → ℕ → M → Bool → Type 0) where
  -- what the accesses of a memory that notes come to
  record Noted (s : State) (xs : List Access) (old new : NotingMemory M) : Type 0 where
    inner : Makes reads writes (with_reads s xs) old.memory.now new.memory.now
    same_memory : new.memory.ghost_name ≡ old.memory.ghost_name
    replaced : AreReplaced new.replaced (writable new.memory.now) (bytes old.memory.now) (bytes new.memory.now)

  -- a write that was answered
  written : (s : State) (a : ℕ) (size : MemAccessSize) (v : ℕ) (granted : Bool) (old new : NotingMemory M)
      → s.bytes ≡ bytes old.memory.now → old.replaced.size ≡ None
      → noting_writes bytes writable reads writes old a size v new granted → Noted s (Write a size v granted ∷ []) old new
  written s a size v true old new same none (both, took, stayed) = record {
    inner = (
      both.between,
      subst (λ (m : ByteMap). reads old.memory.now a size both.between (little_endian m a (width size)))
          (sym same) both.read,
      (new.memory.now, both.written, refl),
    );
    same_memory = took.same_memory;
    replaced = took.replaced;
  }
  written s a size v false old new same none (both, took, stayed) = record {
    inner = (
      both.between,
      subst (λ (m : ByteMap). reads old.memory.now a size both.between (little_endian m a (width size)))
          (sym same) both.read,
      (new.memory.now, both.written, refl),
    );
    same_memory = stayed.same_memory;
    replaced = none_replaced new.replaced _ _ _ (ap (λ (r : Replaced). r.size) stayed.replaced_kept ∙ none) stayed.bytes_kept;
  }

  noted : (s : State) (xs : List Access) (old new : NotingMemory M) → IsShort xs
      → s.bytes ≡ bytes old.memory.now → old.replaced.size ≡ None
      → Makes (noting_reads bytes writable reads) (noting_writes bytes writable reads writes) xs old new → Noted s xs old new
  noted s [] old new short same none made = record {
    inner = ap (λ m. m.memory.now) made;
    same_memory = ap (λ m. m.memory.ghost_name) made;
    replaced = none_replaced new.replaced _ _ _ (ap (λ (m : NotingMemory M). m.replaced.size) made ∙ none)
        (ap (λ (m : NotingMemory M). bytes m.memory.now) made);
  }
  noted s (Read a size answer ∷ xs) old new short same none (mid, did, made) =
      let stays = did.1 in
      let rest = noted s xs mid new short (same ∙ sym stays.bytes_kept)
      (ap (λ (r : Replaced). r.size) stays.replaced_kept ∙ none) made in
      record {
        inner = (mid.memory.now, did.0, rest.inner);
        same_memory = rest.same_memory ∙ stays.same_memory;
        replaced = rest.replaced ∙ stays.bytes_kept;
      }
  noted s (Write a size v granted ∷ []) old new short same none (mid, did, made) =
      subst (λ (m : NotingMemory M). Noted s (Write a size v granted ∷ []) old m) (sym made)
      (written s a size v granted old mid same none did)
  noted s (Write a size v granted ∷ x ∷ xs) old new short same none made = absurd short

  module _ (s : State) (old new : NotingMemory M) (same : s.bytes ≡ bytes old.memory.now) (none : old.replaced.size ≡ None)
      (made : MakesExactly (noting_reads bytes writable reads) (noting_writes bytes writable reads writes) (AccessesOf s) old new) where
    all_noted : Noted s made.accesses old new
    all_noted = noted s _ old new (short_step s _ made.these) same none made.made

    pub step_replaced : AreReplaced new.replaced (writable new.memory.now) (bytes old.memory.now) (bytes new.memory.now)
    step_replaced = all_noted.replaced

    pub still_lent : new.memory.ghost_name ≡ old.memory.ghost_name
    still_lent = all_noted.same_memory

    -- the memory that is lent makes the accesses of the step with the read before its store
    pub step_made : MakesExactly reads writes (NotedAccessesOf s) old.memory.now new.memory.now
    step_made = record {
      accesses = with_reads s made.accesses;
      these = record { of_step = made.accesses; are_its = made.these; with_read = refl };
      only = λ others of. of.with_read
          ∙ ap (with_reads s) (AccessesOf-unique one_row_at_most s of.of_step made.accesses of.are_its made.these);
      made = all_noted.inner;
    }
