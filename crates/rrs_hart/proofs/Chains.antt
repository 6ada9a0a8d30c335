-- A chain of steps goes on by one step, and is the only one to its end, by any step relation that has one step in each state.
use Rattle.std.proofs.Common.{◌≡◌, ℕ, zero, suc, ◌+◌, ◌<◌, ◌≤◌, List, [], ◌∷◌, ◌++◌, length, Bool, replicate, Option, Some, None, Ok, Err, refl, sym, subst, ap, ◌∙◌, append-nil, arith}
use Rattle.std.proofs.lemmas.List.{append_assoc, replicate_more}
use Rattle.rrs_memory.specs.declared.MemAccessSize.{MemAccessSize}
use Rattle.rrs_memory.specs.AccessLists.{Access, MakesExactly}
use Rattle.rrs_lib.specs.declared.instruction_executor.InstructionException.{InstructionException}
use Rattle.rrs_lib.specs.Steps.{StepAnswer}
use Rattle.rrs_lib.proofs.Making.{Makes-append}
use Rattle.rrs_hart.specs.Chains.{Chain, ChainOk, ChainUntil, AccessesOfChain, IsOneStep}

module _ {S : Type 0} (steps : S → S → StepAnswer → Type 0) where
  -- A chain goes on by one step.
  pub Chain-more : (s m t : S) (answers : List StepAnswer) (a : StepAnswer) → Chain steps s answers m → steps m t a → Chain steps s (answers ++ a ∷ []) t
  Chain-more s m t [] a run step = (t, subst (λ x. steps x t a) run step, refl)
  Chain-more s m t (first ∷ answers) a run step = (run.0, run.1, Chain-more run.0 m t answers a run.2 step)

  pub ChainOk-more : (s m t : S) (n : ℕ) → ChainOk steps n s m → steps m t (Ok tt) → ChainOk steps (n + 1) s t
  ChainOk-more s m t n run step =
      subst (λ (x : List StepAnswer). Chain steps s x t) (replicate_more n (Ok tt)) (Chain-more s m t (replicate n (Ok tt)) (Ok tt) run step)

  -- what holds where a step is made next holds at first: of a chain that is empty, or by what is known
  pub at_first : (P : S → Type 0) (n : ℕ) (s t : S) → ChainOk steps n s t → (1 ≤ n → P s) → P t → P s
  at_first P zero s t run before next = subst P run next
  at_first P (suc n) s t run before next = before (omega arith)

  module _ (touches : S → List Access → Type 0) (one : IsOneStep steps touches) where
    -- ---- its accesses

    pub AccessesOfChain-unique : (s : S) (answers : List StepAnswer) (xs ys : List Access)
        → AccessesOfChain steps touches s answers xs → AccessesOfChain steps touches s answers ys → xs ≡ ys
    AccessesOfChain-unique s [] xs ys are are' = are ∙ sym are'
    AccessesOfChain-unique s (answer ∷ answers) xs ys (m, first, later, step, of, rest, are) (m', first', later', step', of', rest', are') =
        let same = one.one_step s m m' answer answer step step' in
        let there = subst (λ x. AccessesOfChain steps touches x answers later') (sym same.0) rest' in
        are ∙ (λ i. one.one_list s first first' of of' i ++ AccessesOfChain-unique m answers later later' rest there i) ∙ sym are'

    pub AccessesOfChain-more : (s m t : S) (answers : List StepAnswer) (answer : StepAnswer) (xs ys : List Access)
        → Chain steps s answers m → AccessesOfChain steps touches s answers xs → steps m t answer → touches m ys
        → AccessesOfChain steps touches s (answers ++ answer ∷ []) (xs ++ ys)
    AccessesOfChain-more s m t [] answer xs ys run are step of =
        let first = subst (λ x. steps x t answer) run step in
        (t, ys, [], first, subst (λ x. touches x ys) run of, refl, ap (λ x. x ++ ys) are ∙ sym (append-nil ys))
    AccessesOfChain-more s m t (first ∷ answers) answer xs ys (n, run_step, run) (n', before, later, step', of', rest, are) step of =
        let there = subst (λ x. Chain steps x answers m) (one.one_step s n n' first first run_step step').0 run in
        let more = AccessesOfChain-more n' m t answers answer later ys there rest step of in
        (n', before, later ++ ys, step', of', more, ap (λ x. x ++ ys) are ∙ append_assoc before later ys)

    pub chain_exactly : {M : Type 0} (reads : M → ℕ → MemAccessSize → M → Option ℕ → Type 0) (writes : M → ℕ → MemAccessSize → ℕ → M → Bool → Type 0)
        (s m t : S) (answers : List StepAnswer) (answer : StepAnswer) (a b c : M) → Chain steps s answers m
        → MakesExactly reads writes (AccessesOfChain steps touches s answers) a b → steps m t answer → MakesExactly reads writes (touches m) b c
        → MakesExactly reads writes (AccessesOfChain steps touches s (answers ++ answer ∷ [])) a c
    chain_exactly reads writes s m t answers answer a b c run before step next =
        let are = AccessesOfChain-more s m t answers answer _ _ run before.these step next.these in
        record {
          accesses = before.accesses ++ next.accesses;
          these = are;
          only = λ others of. AccessesOfChain-unique s (answers ++ answer ∷ []) others _ of are;
          made = Makes-append reads writes before.accesses next.accesses a b c before.made next.made;
        }

    -- ---- there is no other

    -- Two chains of one length from one state have the same answers, and leave the same.
    Chain-unique : (s t t' : S) (answers answers' : List StepAnswer)
        → length answers ≡ length answers' → Chain steps s answers t → Chain steps s answers' t' → (answers ≡ answers') × (t ≡ t')
    Chain-unique s t t' [] [] e run run' = (refl, run ∙ sym run')
    Chain-unique s t t' [] (a' ∷ answers') e run run' = absurd (omega (arith, e))
    Chain-unique s t t' (a ∷ answers) [] e run run' = absurd (omega (arith, e))
    Chain-unique s t t' (a ∷ answers) (a' ∷ answers') e run run' =
        let same = one.one_step s run.0 run'.0 a a' run.1 run'.1 in
        let run' = subst (λ x. Chain steps x answers' t') (sym same.0) run'.2 in
        let rest = Chain-unique run.0 t t' answers answers' (omega (arith, e)) run.2 run' in
        ((λ k. same.1 k ∷ rest.0 k), rest.1)

    -- Of two chains of Ok steps from one state, the shorter one is followed by an Ok step.
    goes_on : (k k' : ℕ) (s m m' : S) → ChainOk steps k s m → ChainOk steps k' s m' → k < k' → (x : S) × steps m x (Ok tt)
    goes_on k zero s m m' run run' less = absurd (omega arith)
    goes_on zero (suc k') s m m' run run' less = (run'.0, subst (λ x. steps x run'.0 (Ok tt)) (sym run) run'.1)
    goes_on (suc k) (suc k') s m m' run run' less =
        let same = one.one_step s run.0 run'.0 (Ok tt) (Ok tt) run.1 run'.1 in
        goes_on k k' run.0 m m' run.2 (subst (λ x. ChainOk steps k' x m') (sym same.0) run'.2) (omega arith)

    -- equal lengths: the same end
    same_end : (k k' : ℕ) (s m m' : S) → k ≡ k' → ChainOk steps k s m → ChainOk steps k' s m' → m ≡ m'
    same_end k k' s m m' e run run' =
        let run' : ChainOk steps k s m' = subst (λ n. ChainOk steps n s m') (sym e) run' in
        (Chain-unique s m m' (replicate k (Ok tt)) (replicate k (Ok tt)) refl run run').1

    -- a chain that is followed by an exception is no shorter than another
    not_below : (k k' : ℕ) (s m m' t : S) (e : InstructionException)
        → ChainOk steps k s m → steps m t (Err e) → ChainOk steps k' s m' → k < k' → ⊥
    not_below k k' s m m' t e run fault run' less =
        let next = goes_on k k' s m m' run run' less in
        let differ : Err e ≡ Ok tt = (one.one_step m t next.0 (Err e) (Ok tt) fault next.1).1 in
        cc

    -- There is one chain to a limit or an exception.
    pub ChainUntil-unique : (limit : ℕ) (s : S) (k k' : ℕ) (e e' : Option InstructionException) (t t' : S)
        → ChainUntil steps limit s k e t → ChainUntil steps limit s k' e' t' → (k ≡ k') × (e ≡ e') × (t ≡ t')
    ChainUntil-unique limit s k k' None None t t' (at, run) (at', run') =
        (at ∙ sym at', refl, same_end k k' s t t' (at ∙ sym at') run run')
    ChainUntil-unique limit s k k' None (Some e') t t' (at, run) (less, (m', run', fault')) =
        absurd (not_below k' k s m' t t' e' run' fault' run (omega (arith, at, less)))
    ChainUntil-unique limit s k k' (Some e) None t t' (less, (m, run, fault)) (at', run') =
        absurd (not_below k k' s m t' t e run fault run' (omega (arith, at', less)))
    ChainUntil-unique limit s k k' (Some e) (Some e') t t' (less, (m, run, fault)) (less', (m', run', fault')) =
        let not_first : k < k' → ⊥ = not_below k k' s m m' t e run fault run' in
        let not_later : k' < k → ⊥ = not_below k' k s m' m t' e' run' fault' run in
        let same : k ≡ k' = omega (arith, not_first, not_later) in
        let middle = same_end k k' s m m' same run run' in
        let ends = one.one_step m t t' (Err e) (Err e') fault (subst (λ x. steps x t' (Err e')) (sym middle) fault') in
        let errors : Err e ≡ Err e' = ends.1 in
        (same, cc, ends.0)
