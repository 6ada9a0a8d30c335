-- Breakpoints and watchpoints that are set and removed.
use Rattle.std.proofs.Common.{◌≡◌, ◌≢◌, ◌⊎◌, ℕ, zero, suc, List, [], ◌∷◌, ◌++◌, Contains, Bool, true, false, length, Result, Ok, Err, OnOk, codes, slice_index, refl, sym, subst, ap, ◌∙◌, inl, inr, arith}
use Rattle.std.specs.List.{items_where_true}
use Rattle.std.specs.List.Retain.{IsFiltered, ReturnsInTurn}
use Rattle.std.proofs.lemmas.List.Elements.{Contains-append_cases, Contains-append_right}
use Rattle.rrs_gdb.specs.declared.breaks.Break.{Break}
use Rattle.rrs_gdb.specs.declared.breaks.Break.TheVariants as Place
use Rattle.rrs_gdb.specs.declared.breaks.Breaks.{Breaks}
use Rattle.rrs_gdb.specs.declared.breaks.Watch.{Watch}
use Rattle.rrs_gdb.specs.declared.breaks.WatchKind.{WatchKind}
use Rattle.rrs_gdb.specs.declared.breaks.WatchKind.TheVariants as Kind
use Rattle.rrs_gdb.specs.Breaks.{WithBreak, WithoutBreak, WithoutEntry}
use Rattle.rrs_gdb.specs.Sessions.{IsBreak, IsError, RemovesBreak, SetsBreak, watch_type}
use Rattle.rrs_gdb.proofs.ChangeLemmas.{error_behind, error_of}

only : {X : Type 0} (x y : X) (xs : List X) → Contains (x ∷ []) y ⊎ Contains xs y → (x ≡ y) ⊎ Contains xs y
only x y xs (inl (zero, below, same)) = inl same
only x y xs (inl (suc k, below, same)) = absurd (omega (arith, below))
only x y xs (inr has) = inr has

first_or : {X : Type 0} (x y : X) (xs : List X) → Contains (x ∷ xs) y → (x ≡ y) ⊎ Contains xs y
first_or x y xs has = only x y xs (Contains-append_cases (x ∷ []) xs y has)

here : {X : Type 0} (x y : X) (xs : List X) → x ≡ y → Contains (x ∷ xs) y
here x y xs same = (zero, omega arith, same)

more : {X : Type 0} (x y : X) (xs : List X) → Contains xs y → Contains (x ∷ xs) y
more x y xs has = Contains-append_right (x ∷ []) xs y has

-- a test of each element tells whether it is another one
module _ {X F : Type 0} (R : F → X → Bool → F → Type 0) (entry : X) (f : F)
    (says : (x : X) (b : Bool) (g : F) → R f x b g
    → ((b ≡ true → x ≢ entry) × (b ≡ false → x ≡ entry)) × (g ≡ f)) where
  kept_or : (x y : X) (xs kept : List X) → x ≢ entry → (Contains kept y → Contains xs y × (y ≢ entry))
      → (x ≡ y) ⊎ Contains kept y → Contains (x ∷ xs) y × (y ≢ entry)
  kept_or x y xs kept other later (inl same) = (here x y xs same, λ is. other (same ∙ is))
  kept_or x y xs kept other later (inr has) = (more x y xs (later has).0, (later has).1)

  same_test : (h g : F) (bs : List Bool) (xs : List X) → h ≡ f → ReturnsInTurn R h bs xs g → ReturnsInTurn R f bs xs g
  same_test h g bs xs same turns = subst (λ (k : F). ReturnsInTurn R k bs xs g) same turns

  kept_of : (g : F) (bs : List Bool) (xs : List X) → ReturnsInTurn R f bs xs g → (y : X)
      → Contains (items_where_true bs xs) y → Contains xs y × (y ≢ entry)
  kept_of g [] xs turns y (k, below, same) = absurd (omega (arith, below))
  kept_of g (b ∷ bs) [] turns y has = absurd turns
  kept_of g (true ∷ bs) (x ∷ xs) (h, is, turns) y has =
      let told = says x true h is in
      kept_or x y xs (items_where_true bs xs) (told.0.0 refl)
      (kept_of g bs xs (same_test h g bs xs told.1 turns) y) (first_or x y (items_where_true bs xs) has)
  kept_of g (false ∷ bs) (x ∷ xs) (h, is, turns) y has =
      let later = kept_of g bs xs (same_test h g bs xs (says x false h is).1 turns) y has in
      (more x y xs later.0, later.1)

  in_true : (x y : X) (xs kept : List X) → (Contains xs y → Contains kept y) → (x ≡ y) ⊎ Contains xs y
      → Contains (x ∷ kept) y
  in_true x y xs kept later (inl same) = here x y kept same
  in_true x y xs kept later (inr has) = more x y kept (later has)

  in_false : (x y : X) (xs kept : List X) → x ≡ entry → y ≢ entry → (Contains xs y → Contains kept y)
      → (x ≡ y) ⊎ Contains xs y → Contains kept y
  in_false x y xs kept is other later (inl same) = absurd (other (sym same ∙ is))
  in_false x y xs kept is other later (inr has) = later has

  kept_in : (g : F) (bs : List Bool) (xs : List X) → ReturnsInTurn R f bs xs g → length bs ≡ length xs → (y : X)
      → Contains xs y → y ≢ entry → Contains (items_where_true bs xs) y
  kept_in g bs [] turns long y (k, below, same) other = absurd (omega (arith, below))
  kept_in g [] (x ∷ xs) turns long y has other = absurd (omega (arith, long))
  kept_in g (true ∷ bs) (x ∷ xs) (h, is, turns) long y has other =
      let rest = same_test h g bs xs (says x true h is).1 turns in
      in_true x y xs (items_where_true bs xs)
      (λ later. kept_in g bs xs rest (omega (arith, long)) y later other) (first_or x y xs has)
  kept_in g (false ∷ bs) (x ∷ xs) (h, is, turns) long y has other =
      let told = says x false h is in
      let rest = same_test h g bs xs told.1 turns in
      in_false x y xs (items_where_true bs xs) (told.0.1 refl) other
      (λ later. kept_in g bs xs rest (omega (arith, long)) y later other) (first_or x y xs has)

  pub without_entry : (xs ys : List X) → IsFiltered R f xs ys → WithoutEntry xs entry ys
  without_entry xs ys (bs, g, long, turns, are) =
      subst (λ (zs : List X). WithoutEntry xs entry zs) (sym are)
      (λ y. (kept_of g bs xs turns y, λ has. kept_in g bs xs turns long y has.0 has.1))

-- ---- a text names one breakpoint or watchpoint at most

-- two texts with other first bytes
other_text : {X : Type 0} (xs ys : List ℕ) → xs ≡ ys → slice_index xs 0 ≢ slice_index ys 0 → X
other_text xs ys same other = absurd (other (ap (λ (zs : List ℕ). slice_index zs 0) same))

one_kind : (k l : WatchKind) → watch_type k ≡ watch_type l → k ≡ l
one_kind Kind.Write Kind.Write same = refl
one_kind Kind.Write Kind.Read same = other_text _ _ same (omega arith)
one_kind Kind.Write Kind.Access same = other_text _ _ same (omega arith)
one_kind Kind.Read Kind.Write same = other_text _ _ same (omega arith)
one_kind Kind.Read Kind.Read same = refl
one_kind Kind.Read Kind.Access same = other_text _ _ same (omega arith)
one_kind Kind.Access Kind.Write same = other_text _ _ same (omega arith)
one_kind Kind.Access Kind.Read same = other_text _ _ same (omega arith)
one_kind Kind.Access Kind.Access same = refl

no_kind : (k : WatchKind) (text : List ℕ) → (text ≡ codes "0") ⊎ (text ≡ codes "1") → text ≡ watch_type k → ⊥
no_kind Kind.Write text (inl is) same = other_text _ _ (sym is ∙ same) (omega arith)
no_kind Kind.Write text (inr is) same = other_text _ _ (sym is ∙ same) (omega arith)
no_kind Kind.Read text (inl is) same = other_text _ _ (sym is ∙ same) (omega arith)
no_kind Kind.Read text (inr is) same = other_text _ _ (sym is ∙ same) (omega arith)
no_kind Kind.Access text (inl is) same = other_text _ _ (sym is ∙ same) (omega arith)
no_kind Kind.Access text (inr is) same = other_text _ _ (sym is ∙ same) (omega arith)

one_watch : (v w : Watch) → v.kind ≡ w.kind → v.address ≡ w.address → v.length ≡ w.length → v ≡ w
one_watch v w kind address long =
    ap (λ (k : WatchKind). record v { kind = k }) kind ∙ ap (λ (a : ℕ). record v { kind = w.kind; address = a }) address
    ∙ ap (λ (n : ℕ). record w { length = n }) long

-- a breakpoint is no watchpoint
pub no_both : (text : List ℕ) (address : ℕ) (watch : Watch) → IsBreak text (Place.Stop address)
    → IsBreak text (Place.Watch watch) → ⊥
no_both text address watch is is' = no_kind watch.kind _ is.0 is'.0

one_break : (text : List ℕ) (p q : Break) → IsBreak text p → IsBreak text q → p ≡ q
one_break text (Place.Stop a) (Place.Stop b) is is' = ap Place.Stop (is.2 ∙ sym is'.2)
one_break text (Place.Stop a) (Place.Watch w) is is' = absurd (no_both text a w is is')
one_break text (Place.Watch v) (Place.Stop b) is is' = absurd (no_both text b v is' is)
one_break text (Place.Watch v) (Place.Watch w) is is' =
    ap Place.Watch (one_watch v w (one_kind v.kind w.kind (sym is.0 ∙ is'.0)) (is.2 ∙ sym is'.2) (is.3 ∙ sym is'.3))

-- ---- what is set and removed, and what is told

pub sets_one : (text : List ℕ) (b b' : Breaks) (place : Break) (answer : List ℕ) → IsBreak text place
    → IsError [] answer ⊎ (WithBreak place b b' × (answer ≡ codes "OK")) → SetsBreak text b b' [] answer
sets_one text b b' place answer is done = record {
  set = λ other is'. subst
      (λ (p : Break). IsError [] answer ⊎ (WithBreak p b b' × (answer ≡ codes "OK")))
      (one_break text place other is is') done;
  refused = λ none. absurd (none place is);
}

pub sets_none : (text : List ℕ) (b b' : Breaks) (answer : List ℕ) → ((place : Break) → ¬ IsBreak text place)
    → IsError [] answer → SetsBreak text b b' [] answer
sets_none text b b' answer none error = record {
  set = λ place is. absurd (none place is);
  refused = λ _. error;
}

pub removes_one : (text : List ℕ) (b b' : Breaks) (place : Break) (answer : List ℕ) → IsBreak text place
    → WithoutBreak place b b' → answer ≡ codes "OK" → RemovesBreak text b b' [] answer
removes_one text b b' place answer is done told = record {
  removed = λ other is'.
      (subst (λ (p : Break). WithoutBreak p b b') (one_break text place other is is') done, told);
  refused = λ none. absurd (none place is);
}

pub removes_none : (text : List ℕ) (b b' : Breaks) (answer : List ℕ) → ((place : Break) → ¬ IsBreak text place)
    → IsError [] answer → RemovesBreak text b b' [] answer
removes_none text b b' answer none error = record {
  removed = λ place is. absurd (none place is);
  refused = λ _. error;
}

set_or : (old new answer : List ℕ) {P : Type 0} → new ≡ old ++ answer → IsError [] answer ⊎ (P × (answer ≡ codes "OK"))
    → IsError old new ⊎ (P × (new ≡ old ++ codes "OK"))
set_or old new answer told (inl error) = inl (error_behind old new answer told error)
set_or old new answer told (inr done) = inr (done.0, told ∙ ap (λ (xs : List ℕ). old ++ xs) done.1)

-- the answer is appended to what is told
pub sets_told : {A F : Type 0} (r : Result A F) (text rest : List ℕ) (b b' : Breaks) (old new answer : List ℕ)
    → text ≡ rest → OnOk r (new ≡ old ++ answer) → SetsBreak text b b' [] answer
    → OnOk r (SetsBreak rest b b' old new)
sets_told (Ok x) text rest b b' old new answer same told sets =
    subst (λ (xs : List ℕ). SetsBreak xs b b' old new) same (record {
      set = λ place is. set_or old new answer told (sets.set place is);
      refused = λ none. error_behind old new answer told (sets.refused none);
    })
sets_told (Err e) text rest b b' old new answer same told sets = tt

pub removes_told : {A F : Type 0} (r : Result A F) (text rest : List ℕ) (b b' : Breaks) (old new answer : List ℕ)
    → text ≡ rest → OnOk r (new ≡ old ++ answer) → RemovesBreak text b b' [] answer
    → OnOk r (RemovesBreak rest b b' old new)
removes_told (Ok x) text rest b b' old new answer same told removes =
    subst (λ (xs : List ℕ). RemovesBreak xs b b' old new) same (record {
      removed = λ place is.
          ((removes.removed place is).0, told ∙ ap (λ (xs : List ℕ). old ++ xs) (removes.removed place is).1);
      refused = λ none. error_behind old new answer told (removes.refused none);
    })
removes_told (Err e) text rest b b' old new answer same told removes = tt

-- an answer that is an error leaves this
pub kept_on_error : {A F : Type 0} (r : Result A F) (P : Type 0) (old new answer : List ℕ) → OnOk r (new ≡ old ++ answer)
    → (IsError [] answer → P) → OnOk r (IsError old new → P)
kept_on_error (Ok x) P old new answer told kept = λ error. kept (error_of old new answer told error)
kept_on_error (Err e) P old new answer told kept = tt
