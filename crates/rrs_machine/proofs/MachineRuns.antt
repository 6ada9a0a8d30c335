-- How runs with machine mode are made of steps, and that one leads from each state where one thing is told at most.
use Rattle.std.proofs.Common.{◌≡◌, ◌≢◌, ℕ, zero, suc, ◌+◌, ◌<◌, List, ◌++◌, Bool, true, false, Option, refl, sym, subst, ◌∙◌, add-one, inl, inr, arith}
use Rattle.std.proofs.lemmas.Bool.{cases_lt}
use Rattle.rrs_lib.specs.declared.MemAccessSize.{MemAccessSize}
use Rattle.rrs_machine.specs.declared.csrs.Inputs.{Inputs}
use Rattle.rrs_machine.specs.declared.machine.MachineAnswer.{MachineAnswer}
use Rattle.rrs_machine.specs.declared.machine.MachineAnswer.TheVariants.{Waiting}
use Rattle.rrs_lib.specs.Accesses.{Access, MakesExactly}
use Rattle.rrs_lib.proofs.Making.{Makes-append}
use Rattle.rrs_machine.specs.MachineSteps.{MachineState, MachineStep, AccessesOfMachineStep}
use Rattle.rrs_machine.specs.Runs.{Telling, OneMore, MachineSteps, MachineRun, TellsOne, MakesThose}
use Rattle.rrs_machine.proofs.MachineStepping.{MachineStep-unique}

module _ {E : Type 0} (tells : Telling E) {M : Type 0}
    (reads : M → ℕ → MemAccessSize → M → Option ℕ → Type 0)
    (writes : M → ℕ → MemAccessSize → ℕ → M → Bool → Type 0) where
  -- one more step, after those that were made
  pub one_more : (IsMeant : MachineAnswer → Type 0) (n : ℕ) (e around d : E) (s m t : MachineState) (i : Inputs)
      (answer : MachineAnswer) (a b c : M)
      → MakesThose reads writes (MachineSteps tells n e s around m) a b
      → tells around d i → MachineStep i m t answer
      → MakesExactly reads writes (AccessesOfMachineStep i m) b c → IsMeant answer
      → MakesThose reads writes (OneMore tells IsMeant (MachineSteps tells n e s) d t) a c
  one_more IsMeant n e around d s m t i answer a b c before told step exactly meant = record {
    accesses = before.accesses ++ exactly.accesses;
    these = record {
      around = around;
      state = m;
      inputs = i;
      answer = answer;
      so_far = before.accesses;
      of_step = exactly.accesses;
      before = before.these;
      told = told;
      step = step;
      accessed = exactly.these;
      meant = meant;
      all = refl;
    };
    made = Makes-append reads writes before.accesses exactly.accesses a b c before.made exactly.made;
  }

  -- so many steps and one that does not wait
  pub steps_more : (n : ℕ) (e around d : E) (s m t : MachineState) (i : Inputs) (answer : MachineAnswer) (a b c : M)
      → MakesThose reads writes (MachineSteps tells n e s around m) a b
      → tells around d i → MachineStep i m t answer
      → MakesExactly reads writes (AccessesOfMachineStep i m) b c → answer ≢ Waiting
      → MakesThose reads writes (MachineSteps tells (n + 1) e s d t) a c
  steps_more n e around d s m t i answer a b c before told step exactly goes =
      subst (λ k. MakesThose reads writes (MachineSteps tells k e s d t) a c) (sym (add-one n))
      (one_more (λ x. x ≢ Waiting) n e around d s m t i answer a b c before told step exactly goes)

  -- a run that ends by a step that waits
  pub waits : (limit n : ℕ) (e around d : E) (s m t : MachineState) (i : Inputs) (answer : MachineAnswer) (a b c : M)
      → n < limit → MakesThose reads writes (MachineSteps tells n e s around m) a b
      → tells around d i → MachineStep i m t answer
      → MakesExactly reads writes (AccessesOfMachineStep i m) b c → answer ≡ Waiting
      → MakesThose reads writes (MachineRun tells limit e s n true d t) a c
  waits limit n e around d s m t i answer a b c less before told step exactly waiting =
      let more = one_more (λ x. x ≡ Waiting) n e around d s m t i answer a b c before told step exactly waiting in
      record { accesses = more.accesses; these = (less, more.these); made = more.made }

  -- a run to its limit
  pub ends_at_limit : (limit n : ℕ) (e d : E) (s t : MachineState) (a b : M)
      → n ≡ limit → MakesThose reads writes (MachineSteps tells n e s d t) a b
      → MakesThose reads writes (MachineRun tells limit e s n false d t) a b
  ends_at_limit limit n e d s t a b at before =
      record { accesses = before.accesses; these = (at, before.these); made = before.made }

-- ---- no other run

module _ {E : Type 0} (tells : Telling E) (one : TellsOne tells) where
  -- one step after equal ones
  more-unique : (P Q : MachineAnswer → Type 0) (F G : E → MachineState → List Access → Type 0) (d d' : E) (t t' : MachineState) (xs ys : List Access)
      → ((around around' : E) (m m' : MachineState) (us vs : List Access) → F around m us → G around' m' vs → (around ≡ around') × (m ≡ m'))
      → (x : OneMore tells P F d t xs) (y : OneMore tells Q G d' t' ys) → (d ≡ d') × (t ≡ t') × (x.answer ≡ y.answer)
  more-unique P Q F G d d' t t' xs ys same x y =
      let start = same x.around y.around x.state y.state x.so_far y.so_far x.before y.before in
      let told = one x.around d d' x.inputs y.inputs x.told (subst (λ z. tells z d' y.inputs) (sym start.0) y.told) in
      let moved : MachineStep x.inputs x.state t' y.answer =
      subst (λ z. MachineStep z x.state t' y.answer) (sym told.1) (subst (λ z. MachineStep y.inputs z t' y.answer) (sym start.1) y.step) in
      let steps = MachineStep-unique x.inputs x.state t t' x.answer y.answer x.step moved in
      (told.0, steps.0, steps.1)

  steps-unique : (n : ℕ) (e d d' : E) (s t t' : MachineState) (xs ys : List Access)
      → MachineSteps tells n e s d t xs → MachineSteps tells n e s d' t' ys → (d ≡ d') × (t ≡ t')
  steps-unique zero e d d' s t t' xs ys x y = (x.0 ∙ sym y.0, x.1 ∙ sym y.1)
  steps-unique (suc n) e d d' s t t' xs ys x y =
      let more =
      more-unique _ _ (MachineSteps tells n e s) (MachineSteps tells n e s) d d' t t' xs ys
      (λ around around' m m' us vs. steps-unique n e around around' s m m' us vs) x y in
      (more.0, more.1)

  -- steps that go on do so beyond each number of steps that is smaller, and so do not wait there
  goes_beyond : (n k : ℕ) (e d : E) (s t : MachineState) (xs : List Access) → n < k → MachineSteps tells k e s d t xs
      → (d' : E) × (t' : MachineState) × (ys : List Access) × OneMore tells (λ a. a ≢ Waiting) (MachineSteps tells n e s) d' t' ys
  goes_beyond n zero e d s t xs less x = absurd (omega arith)
  goes_beyond n (suc k) e d s t xs less x =
      elim (cases_lt n k) [
        | inl earlier ↦ goes_beyond n k e x.around s x.state x.so_far earlier x.before
        | inr last ↦
            let same : k ≡ n = omega (arith, last) in
            (d, t, xs, subst (λ j. OneMore tells (λ a. a ≢ Waiting) (MachineSteps tells j e s) d t xs) same x)
      ]

  -- so no run waits after fewer steps than another one makes
  no_wait_within : (n k : ℕ) (e d d' : E) (s t t' : MachineState) (xs ys : List Access) → n < k
      → OneMore tells (λ a. a ≡ Waiting) (MachineSteps tells n e s) d t xs → MachineSteps tells k e s d' t' ys → ⊥
  no_wait_within n k e d d' s t t' xs ys less x y =
      let beyond = goes_beyond n k e d' s t' ys less y in
      let same =
      more-unique _ _ (MachineSteps tells n e s) (MachineSteps tells n e s) d beyond.0 t beyond.1 xs beyond.2
      (λ around around' m m' us vs. steps-unique n e around around' s m m' us vs) x beyond.3 in
      beyond.3.meant (sym same.2 ∙ x.meant)

  pub run-unique : (limit : ℕ) (e d d' : E) (s t t' : MachineState) (n k : ℕ) (b c : Bool) (xs ys : List Access)
      → MachineRun tells limit e s n b d t xs → MachineRun tells limit e s k c d' t' ys
      → (k ≡ n) × (c ≡ b) × (d' ≡ d) × (t' ≡ t)
  run-unique limit e d d' s t t' n k false false xs ys x y =
      let same : k ≡ n = y.0 ∙ sym x.0 in
      let ends = steps-unique n e d' d s t' t ys xs (subst (λ j. MachineSteps tells j e s d' t' ys) same y.1) x.1 in
      (same, refl, ends.0, ends.1)
  run-unique limit e d d' s t t' n k false true xs ys x y =
      absurd (no_wait_within k n e d' d s t' t ys xs (omega (arith, x.0, y.0)) y.1 x.1)
  run-unique limit e d d' s t t' n k true false xs ys x y =
      absurd (no_wait_within n k e d d' s t t' xs ys (omega (arith, x.0, y.0)) x.1 y.1)
  run-unique limit e d d' s t t' n k true true xs ys x y =
      elim (cases_lt n k) [
        | inl less ↦ absurd (no_wait_within n k e d y.1.around s t y.1.state xs y.1.so_far less x.1 y.1.before)
        | inr not_less ↦
            elim (cases_lt k n) [
              | inl less ↦ absurd (no_wait_within k n e d' x.1.around s t' x.1.state ys x.1.so_far less y.1 x.1.before)
              | inr not_more ↦
                  let same : k ≡ n = omega (arith, not_less, not_more) in
                  let moved = subst (λ j. OneMore tells (λ a. a ≡ Waiting) (MachineSteps tells j e s) d' t' ys) same y.1 in
                  let ends =
                  more-unique _ _ (MachineSteps tells n e s) (MachineSteps tells n e s) d' d t' t ys xs
                  (λ around around' m m' us vs. steps-unique n e around around' s m m' us vs) moved x.1 in
                  (same, refl, ends.0, ends.1)
            ]
      ]
