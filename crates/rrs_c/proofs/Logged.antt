-- The load or the store of a record, where its access is made outside of the machine.
use Rattle.std.proofs.Common.{◌≡◌, ℕ, ◌%◌, ◌==◌, List, [], ◌∷◌, ◌++◌, Bool, true, false, Option, Some, None, Ok, Err, refl, sym, subst, ◌∙◌}
use Rattle.std.proofs.lemmas.Bool.{eqb-true, eqb-false}
use Rattle.rrs_lib.specs.declared.MemAccessSize.TheVariants.{Word}
use Rattle.rrs_lib.specs.Machine.{State}
use Rattle.rrs_lib.specs.Accesses.{Access, AccessesOf, OfNone, fetch, read_if_aligned}
use Rattle.rrs_lib.proofs.Making.{AccessesOf-unique}
use Rattle.rrs_lib.proofs.Rows.{one_row_at_most}
use Rattle.rrs_trace.specs.declared.outside.DataRequest.{DataRequest}
use Rattle.rrs_trace.specs.Retired.{no_access, after_fetch}
use Rattle.rrs_trace.specs.Outside.{RequestAnswer, AccessesAfterFetch, AnsweredBy, requested}
use Rattle.rrs_c.specs.Completing.{logged}

-- the list of the fetch, by what the program counter is
with_fetch : (s : State) (xs : List Access) → s.pc % 4 ≡ 0 → read_if_aligned s s.pc Word ++ xs ≡ fetch s ∷ xs
with_fetch s xs aligned = rw aligned refl

without_fetch : (s : State) (xs : List Access) → (s.pc % 4 == 0) ≡ false → read_if_aligned s s.pc Word ++ xs ≡ xs
without_fetch s xs odd = rw odd refl

tail : (x : Access) (xs ys : List Access) → x ∷ xs ≡ x ∷ ys → xs ≡ ys
tail x xs ys same = cc

-- what was answered is what is logged
answered : (s : State) (r : RequestAnswer) (given : Option ℕ) → AnsweredBy given (requested s r) → logged r given ≡ after_fetch (fetch s ∷ requested s r)
answered s (Ok None) given h = refl
answered s (Err e) given h = refl
answered s (Ok (Some (DataRequest.Load a size))) None h = rw h refl
answered s (Ok (Some (DataRequest.Load a size))) (Some v) h = rw h refl
answered s (Ok (Some (DataRequest.Store a size value))) None h = rw h refl
answered s (Ok (Some (DataRequest.Store a size value))) (Some v) h = rw h refl

-- nothing is asked where there is no access at all
unasked : (s : State) (r : RequestAnswer) (given : Option ℕ) → requested s r ≡ [] → logged r given ≡ no_access
unasked s (Ok None) given none = refl
unasked s (Err e) given none = refl
unasked s (Ok (Some (DataRequest.Load a size))) given none = cc
unasked s (Ok (Some (DataRequest.Store a size value))) given none = cc

by_alignment : (s : State) (r : RequestAnswer) (given : Option ℕ) (accesses all : List Access) (b : Bool) → (s.pc % 4 == 0) ≡ b
    → AccessesAfterFetch s (requested s r) → AccessesAfterFetch s accesses → AnsweredBy given accesses → AccessesOf s all
    → logged r given ≡ after_fetch all
by_alignment s r given accesses all true is asked made answers are =
    let aligned = eqb-true _ _ is in
    let unique = AccessesOf-unique one_row_at_most s in
    let same = tail _ _ _ (sym (with_fetch s accesses aligned) ∙ unique _ _ made asked ∙ with_fetch s (requested s r) aligned) in
    let whole = sym (with_fetch s (requested s r) aligned) ∙ unique _ _ asked are in
    subst (λ (xs : List Access). logged r given ≡ after_fetch xs) whole (answered s r given (subst (AnsweredBy given) same answers))
by_alignment s r given accesses all false is asked made answers are =
    let none = OfNone (eqb-false _ _ is) refl in
    let unique = AccessesOf-unique one_row_at_most s in
    let nothing = sym (without_fetch s (requested s r) is) ∙ unique _ _ asked none in
    subst (λ (xs : List Access). logged r given ≡ after_fetch xs) (unique _ _ none are) (unasked s r given nothing)

-- what is logged is the access of the step
pub logged_access : (s : State) (r : RequestAnswer) (given : Option ℕ) (accesses all : List Access)
    → AccessesAfterFetch s (requested s r) → AccessesAfterFetch s accesses → AnsweredBy given accesses → AccessesOf s all
    → logged r given ≡ after_fetch all
logged_access s r given accesses all asked made answers are = by_alignment s r given accesses all _ refl asked made answers are
