-- Runs of a hart one after the other: so many steps that are Ok, and then a run, are one run.
use Rattle.std.proofs.Common.{◌≡◌, ℕ, zero, suc, ◌+◌, ◌≤◌, List, [], ◌∷◌, ◌++◌, replicate, Bool, Option, Some, None, Ok, Err, refl, sym, subst, ap, ◌∙◌, append_assoc, arith}
use Rattle.std.proofs.lemmas.List.{replicate-append-replicate}
use Rattle.rrs_lib.specs.declared.MemAccessSize.{MemAccessSize}
use Rattle.rrs_lib.specs.declared.instruction_executor.InstructionException.{InstructionException}
use Rattle.rrs_lib.specs.Steps.{StepAnswer}
use Rattle.rrs_lib.specs.Accesses.{Access, answers_of_run, MakesExactly}
use Rattle.rrs_lib.proofs.Making.{Makes-append}
use Rattle.rrs_words.specs.declared.csrs.HartProfile.{HartProfile}
use Rattle.rrs_hart.specs.Chains.{Chain, ChainOk}
use Rattle.rrs_hart.specs.Harts.{Hart, HartStep, HartRun, AccessesOfHartRun}
use Rattle.rrs_hart.proofs.HartSteps.{HartStep-unique}
use Rattle.rrs_hart.proofs.HartRuns.{AccessesOfHartRun-unique}

-- A runner keeps its profile: the second one here is the first.
module _ (p : HartProfile) where
  chain_joined : (s u t : Hart) (answers later : List StepAnswer) → Chain (HartStep p) s answers u
      → Chain (HartStep p) u later t → Chain (HartStep p) s (answers ++ later) t
  chain_joined s u t [] later run next = subst (λ x. Chain (HartStep p) x later t) run next
  chain_joined s u t (answer ∷ answers) later (m, step, run) next = (m, step, chain_joined m u t answers later run next)

  ok_joined : (before steps : ℕ) (s u t : Hart) → ChainOk (HartStep p) before s u → ChainOk (HartStep p) steps u t
      → ChainOk (HartStep p) (before + steps) s t
  ok_joined before steps s u t runs next =
      subst (λ (l : List StepAnswer). Chain (HartStep p) s l t) (replicate-append-replicate before steps (Ok tt))
      (chain_joined s u t (replicate before (Ok tt)) (replicate steps (Ok tt)) runs next)

  -- steps that are Ok, and then a run up to what is left of the limit
  pub run_joined : (q : HartProfile) (limit before left steps : ℕ) (e : Option InstructionException) (s u t : Hart) → q ≡ p → before + left ≡ limit
      → ChainOk (HartStep p) before s u → HartRun q left u steps e t → HartRun p limit s (before + steps) e t
  run_joined q limit before left steps None s u t same count runs given =
      let run = subst (λ x. HartRun x left u steps None t) same given in
      (omega (arith, count, run.0), ok_joined before steps s u t runs run.1)
  run_joined q limit before left steps (Some e) s u t same count runs given =
      let run = subst (λ x. HartRun x left u steps (Some e) t) same given in
      (omega (arith, count, run.0), (run.1.0, ok_joined before steps s u run.1.0 runs run.1.1, run.1.2))

  -- steps that are Ok, and then a run that came to its limit
  pub piece_made : (q : HartProfile) (before size steps : ℕ) (e : Option InstructionException) (s u t : Hart) → q ≡ p → e ≡ None
      → ChainOk (HartStep p) before s u → HartRun q size u steps e t → ChainOk (HartStep p) (before + size) s t
  piece_made q before size steps None s u t same is runs given =
      let run = subst (λ x. HartRun x size u steps None t) same given in
      subst (λ n. ChainOk (HartStep p) (before + n) s t) run.0 (ok_joined before steps s u t runs run.1)
  piece_made q before size steps (Some e) s u t same is runs given = absurd (cc (is))

  -- ---- accesses

  -- the accesses of one chain, and then those of another
  accesses_joined : (s u : Hart) (answers later : List StepAnswer) (xs ys : List Access) → Chain (HartStep p) s answers u
      → AccessesOfHartRun p s answers xs → AccessesOfHartRun p u later ys → AccessesOfHartRun p s (answers ++ later) (xs ++ ys)
  accesses_joined s u [] later xs ys run are next =
      let first = subst (λ x. AccessesOfHartRun p x later ys) run next in
      subst (λ zs. AccessesOfHartRun p s later (zs ++ ys)) (sym are) first
  accesses_joined s u (answer ∷ answers) later xs ys (m, step, run) (m', first, rest, step', of, more, are) next =
      let same = (HartStep-unique p s m m' answer answer step step').0 in
      let whole = accesses_joined m' u answers later rest ys (subst (λ x. Chain (HartStep p) x answers u) same run) more next in
      (m', first, rest ++ ys, step', of, whole, ap (λ zs. zs ++ ys) are ∙ append_assoc first rest ys)

  -- the answers of the steps, and then those of the run
  answers_joined : (before steps : ℕ) (e : Option InstructionException)
      → replicate {A = StepAnswer} before (Ok tt) ++ answers_of_run steps e ≡ answers_of_run (before + steps) e
  answers_joined before steps None = replicate-append-replicate before steps (Ok tt)
  answers_joined before steps (Some e) =
      sym (append_assoc (replicate before (Ok tt)) (replicate steps (Ok tt)) (Err e ∷ []))
      ∙ ap (λ answers. answers ++ Err e ∷ []) (replicate-append-replicate before steps (Ok tt))

  module _ {M : Type 0} (reads : M → ℕ → MemAccessSize → M → Option ℕ → Type 0)
      (writes : M → ℕ → MemAccessSize → ℕ → M → Bool → Type 0) where
    -- of steps that are Ok, and of a run after them
    pub exactly_joined : (q : HartProfile) (before steps : ℕ) (e : Option InstructionException) (s u : Hart) (a b c : M) → q ≡ p
        → ChainOk (HartStep p) before s u
        → MakesExactly reads writes (AccessesOfHartRun p s (replicate before (Ok tt))) a b
        → MakesExactly reads writes (AccessesOfHartRun q u (answers_of_run steps e)) b c
        → MakesExactly reads writes (AccessesOfHartRun p s (answers_of_run (before + steps) e)) a c
    exactly_joined q before steps e s u a b c same runs first given =
        let later = subst (λ x. MakesExactly reads writes (AccessesOfHartRun x u (answers_of_run steps e)) b c) same given in
        let joined =
        accesses_joined s u (replicate before (Ok tt)) (answers_of_run steps e) first.accesses later.accesses runs first.these later.these in
        let answers = answers_of_run (before + steps) e in
        let these : AccessesOfHartRun p s answers (first.accesses ++ later.accesses) =
        subst (λ l. AccessesOfHartRun p s l (first.accesses ++ later.accesses)) (answers_joined before steps e) joined in
        record {
          accesses = first.accesses ++ later.accesses;
          these = these;
          only = λ others of. AccessesOfHartRun-unique p s answers others _ of these;
          made = Makes-append reads writes first.accesses later.accesses a b c first.made later.made;
        }

    -- of steps that are Ok, and of a run after them that came to its limit
    pub piece_exactly : (q : HartProfile) (before size steps : ℕ) (e : Option InstructionException) (s u t : Hart) (a b c : M) → q ≡ p → e ≡ None
        → ChainOk (HartStep p) before s u → HartRun q size u steps e t
        → MakesExactly reads writes (AccessesOfHartRun p s (replicate before (Ok tt))) a b
        → MakesExactly reads writes (AccessesOfHartRun q u (answers_of_run steps e)) b c
        → MakesExactly reads writes (AccessesOfHartRun p s (replicate {A = StepAnswer} (before + size) (Ok tt))) a c
    piece_exactly q before size steps None s u t a b c same is runs run first later =
        let whole = exactly_joined q before steps None s u a b c same runs first later in
        subst (λ n. MakesExactly reads writes (AccessesOfHartRun p s (replicate {A = StepAnswer} (before + n) (Ok tt))) a c) run.0 whole
    piece_exactly q before size steps (Some e) s u t a b c same is runs run first later = absurd (cc (is))

pub piece_steps : (q : HartProfile) (size steps : ℕ) (e : Option InstructionException) (u t : Hart) → e ≡ None → HartRun q size u steps e t
    → steps ≡ size
piece_steps q size steps None u t is run = run.0
piece_steps q size steps (Some e) u t is run = absurd (cc (is))

-- a run that raised an exception below a limit did so below a higher one
pub run_farther : (q : HartProfile) (limit more steps : ℕ) (e : InstructionException) (s t : Hart) → limit ≤ more
    → HartRun q limit s steps (Some e) t → HartRun q more s steps (Some e) t
run_farther q limit more steps e s t farther run = (omega (arith, run.0, farther), run.1)

-- What the hart has where a run begins, the first one has: it did once a step was made, or is that one.
pub holds_at_start : (p : HartProfile) (P : Hart → Type 0) (before : ℕ) (s u : Hart) → ChainOk (HartStep p) before s u
    → (1 ≤ before → P s) → (before ≡ 0 → P u) → P s
holds_at_start p P zero s u runs made now = subst P runs (now refl)
holds_at_start p P (suc before) s u runs made now = made (omega arith)
