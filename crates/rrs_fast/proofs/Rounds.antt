-- Chains of runs and calls: how they are made of rounds, and that one leads from each state where calls are determined.
use Rattle.std.proofs.Common.{◌≡◌, ℕ, ◌+◌, ◌-◌, ◌≤◌, List, ◌++◌, Bool, Option, Some, None, refl, sym, subst, ap}
use Rattle.std.proofs.Common.{◌∙◌, append_assoc, arith}
use Rattle.std.proofs.lemmas.Option.{none-some, same_Some}
use Rattle.rrs_lib.specs.declared.MemAccessSize.{MemAccessSize}
use Rattle.rrs_lib.specs.declared.instruction_executor.InstructionException.{InstructionException}
use Rattle.rrs_lib.specs.declared.instruction_executor.InstructionException.TheVariants.{EnvironmentCall}
use Rattle.rrs_fast.specs.declared.serving.Ending.{Ending}
use Rattle.rrs_fast.specs.declared.serving.Ending.TheVariants.{Fault, Exit}
use Rattle.rrs_lib.specs.Machine.{State}
use Rattle.rrs_lib.specs.Accesses.{Access, answers_of_run, Makes, MakesExactly}
use Rattle.rrs_lib.proofs.Making.{Makes-append}
use Rattle.rrs_words.specs.declared.csrs.HartProfile.{HartProfile}
use Rattle.rrs_hart.specs.Harts.{Hart, hart_with, HartRun, AccessesOfHartRun}
use Rattle.rrs_hart.proofs.HartRuns.{HartRun-unique, AccessesOfHartRun-unique}
use Rattle.rrs_fast.specs.Serving.{Relation, resumed, EndsBy, Called, HartServed, Last, Exits, GoesOn}
use Rattle.rrs_fast.specs.Serving.{IsDetermined, IsOnlyServed, IsDeterminedBy, IsOnlyHartAlike}
use Rattle.rrs_fast.specs.Serving.{MakesSome}

-- ---- ends

pub ends_by_fault : (x : InstructionException) → ((pc : ℕ) → x ≡ EnvironmentCall pc → ⊥) → EndsBy (Some x) (Fault x)
ends_by_fault (EnvironmentCall pc) other = other pc refl
ends_by_fault _ other = refl

EndsBy-unique : (x : Option InstructionException) (a b : Ending) → EndsBy x a → EndsBy x b → a ≡ b
EndsBy-unique (Some (EnvironmentCall pc)) a b p q = absurd p
EndsBy-unique _ a b p q = p ∙ sym q

-- ---- rounds

pub run_within : (p : HartProfile) (limit : ℕ) (s t : Hart) (steps : ℕ) (x : Option InstructionException)
    → HartRun p limit s steps x t → steps ≤ limit
run_within p limit s t steps None run = omega (arith, run.0)
run_within p limit s t steps (Some e) run = omega (arith, run.0)

module _ {E : Type 0} (p : HartProfile) (serves : Relation E) {M : Type 0} (reads : M → ℕ → MemAccessSize → M → Option ℕ → Type 0)
    (writes : M → ℕ → MemAccessSize → ℕ → M → Bool → Type 0) where
  -- a run that no call follows
  pub last_round : (limit : ℕ) (e : E) (s t : Hart) (steps : ℕ) (x : Option InstructionException)
      (ending : Ending) (m m' : M)
      → HartRun p limit s steps x t → MakesExactly reads writes (AccessesOfHartRun p s (answers_of_run steps x)) m m'
      → EndsBy x ending
      → MakesSome reads writes (HartServed p serves ending e t limit e s steps) m m'
  last_round limit e s t steps x ending m m' run exactly ends =
      let these = Last limit e s steps exactly.accesses x run exactly.these ends refl in
      record { accesses = exactly.accesses; these = these; made = exactly.made }

  -- a run and a call
  pub call_round : (limit : ℕ) (e d : E) (s at_call : Hart) (after : State) (t : Hart) (before pc : ℕ) (x : Option InstructionException)
      (given answer : Option ℕ) (m m1 m2 : M)
      → HartRun p limit s before x at_call → MakesExactly reads writes (AccessesOfHartRun p s (answers_of_run before x)) m m1
      → x ≡ Some (EnvironmentCall pc)
      → MakesSome reads writes (λ a. serves e at_call.state d after a given) m1 m2 → given ≡ answer
      → t ≡ hart_with (resumed answer pc after) at_call.reserved
      → MakesSome reads writes (Called p serves limit e s (before + 1) answer d t) m m2
  call_round limit e d s at_call after t before pc x given answer m m1 m2 run exactly is served same goes = record {
    accesses = exactly.accesses ++ served.accesses;
    these = record {
      before = before;
      pc = pc;
      at_call = at_call;
      after_call = after;
      of_run = exactly.accesses;
      of_call = served.accesses;
      run = subst (λ y. HartRun p limit s before y at_call) is run;
      accessed = subst (λ y. AccessesOfHartRun p s (answers_of_run before y) exactly.accesses) is exactly.these;
      served = subst (λ y. serves e at_call.state d after served.accesses y) same served.these;
      goes_on = goes;
      counted = refl;
      all = refl;
    };
    made = Makes-append reads writes exactly.accesses served.accesses m m1 m2 exactly.made served.made;
  }

  -- a call that ends the program
  pub exit_round : (limit : ℕ) (e d : E) (s t : Hart) (steps status : ℕ) (m m' : M)
      → MakesSome reads writes (Called p serves limit e s steps (Some status) d t) m m'
      → MakesSome reads writes (HartServed p serves (Exit status) d t limit e s steps) m m'
  exit_round limit e d s t steps status m m' called =
      let these = Exits limit e s steps called.accesses status called.these refl in
      record { accesses = called.accesses; these = these; made = called.made }

  -- The rounds so far lead from the start to here: what follows from here follows from the start.
  pub record Reached (limit : ℕ) (e : E) (s : Hart) (m : M) (steps : ℕ) (d : E) (u : Hart) (k : M) : Type 0 where
    pub accesses : List Access
    pub goes_on : (ending : Ending) (e' : E) (t : Hart) (later : ℕ) (b : List Access)
        → HartServed p serves ending e' t (limit - steps) d u later b
        → HartServed p serves ending e' t limit e s (steps + later) (accesses ++ b)
    pub made : Makes reads writes accesses m k

  pub reached_more : (q : HartProfile) (limit : ℕ) (e d d' : E) (s u u' : Hart) (m k k' : M) (steps first : ℕ)
      → q ≡ p → Reached limit e s m steps d u k
      → MakesSome reads writes (Called q serves (limit - steps) d u first None d' u') k k'
      → Reached limit e s m (steps + first) d' u' k'
  reached_more q limit e d d' s u u' m k k' steps first same so_far made_call =
      let called = subst (λ r. MakesSome reads writes (Called r serves (limit - steps) d u first None d' u') k k') same made_call in
      record {
        accesses = so_far.accesses ++ called.accesses;
        goes_on = λ ending e' t later b served.
            let rest : limit - (steps + first) ≡ limit - steps - first = omega arith in
            let next =
            GoesOn (limit - steps) d u first later called.accesses b d' u' called.these
            (subst (λ n. HartServed p serves ending e' t n d' u' later b) rest served) in
            let whole = so_far.goes_on ending e' t (first + later) (called.accesses ++ b) next in
            let sum : steps + (first + later) ≡ steps + first + later = omega arith in
            let all : so_far.accesses ++ (called.accesses ++ b) ≡ (so_far.accesses ++ called.accesses) ++ b =
            sym (append_assoc so_far.accesses called.accesses b) in
            subst (λ n. HartServed p serves ending e' t limit e s n ((so_far.accesses ++ called.accesses) ++ b)) sum
            (subst (λ a. HartServed p serves ending e' t limit e s (steps + (first + later)) a) all whole);
        made = Makes-append reads writes so_far.accesses called.accesses m k k' so_far.made called.made;
      }

  pub reached_end : (q : HartProfile) (limit : ℕ) (e d e' : E) (s u t : Hart) (m k k' : M) (steps later : ℕ) (ending : Ending)
      → q ≡ p → Reached limit e s m steps d u k
      → MakesSome reads writes (HartServed q serves ending e' t (limit - steps) d u later) k k'
      → MakesSome reads writes (HartServed p serves ending e' t limit e s (steps + later)) m k'
  reached_end q limit e d e' s u t m k k' steps later ending same so_far last =
      let served = subst (λ r. MakesSome reads writes (HartServed r serves ending e' t (limit - steps) d u later) k k') same last in
      record {
        accesses = so_far.accesses ++ served.accesses;
        these = so_far.goes_on ending e' t later served.accesses served.these;
        made = Makes-append reads writes so_far.accesses served.accesses m k k' so_far.made served.made;
      }

-- ---- no other chain

module _ {E : Type 0} (p : HartProfile) (serves : Relation E) (alike : E → E → Type 0) (by : IsDeterminedBy serves alike) where
  -- two calls from environments that are alike
  record SameCalls (k k' : ℕ) (answer answer' : Option ℕ) (d d' : E) (t t' : Hart) (a a' : List Access) : Type 0 where
    steps : k ≡ k'
    answers : answer ≡ answer'
    are_alike : alike d d'
    states : t ≡ t'
    accesses : a ≡ a'

  same_calls : {limit : ℕ} {e e' d d' : E} {s t t' : Hart} {k k' : ℕ} {answer answer' : Option ℕ} {a a' : List Access}
      → alike e e' → Called p serves limit e s k answer d t a → Called p serves limit e' s k' answer' d' t' a'
      → SameCalls k k' answer answer' d d' t t' a a'
  same_calls {limit = limit} {e = e} {e' = e'} {d = d} {d' = d'} {s = s} {answer = answer} {answer' = answer'} same c c' =
      let x = Some (EnvironmentCall c.pc) in
      let x' = Some (EnvironmentCall c'.pc) in
      let run = HartRun-unique p limit s c.before c'.before x x' c.at_call c'.at_call c.run c'.run in
      let call : EnvironmentCall c.pc ≡ EnvironmentCall c'.pc = same_Some _ _ run.1 in
      let pcs : c.pc ≡ c'.pc = cc in
      let served = subst (λ (x : Hart). serves e x.state d c.after_call c.of_call answer) run.2 c.served in
      let one = by.determined e e' d d' c'.at_call.state c.after_call c'.after_call c.of_call c'.of_call answer answer' same
      served c'.served in
      let accessed = subst (λ l. AccessesOfHartRun p s l c.of_run) (λ i. answers_of_run (run.0 i) (run.1 i)) c.accessed in
      let of_run = AccessesOfHartRun-unique p s (answers_of_run c'.before x') c.of_run c'.of_run accessed
      c'.accessed in
      record {
        steps = c.counted ∙ ap (λ n. n + 1) run.0 ∙ sym c'.counted;
        answers = one.3;
        are_alike = one.0;
        states = c.goes_on ∙ (λ i. hart_with (resumed (one.3 i) (pcs i) (one.1 i)) (run.2 i).reserved) ∙ sym c'.goes_on;
        accesses = c.all ∙ (λ i. of_run i ++ one.2 i) ∙ sym c'.all;
      }

  -- a run that no call follows is none that one follows
  last_or_call : (limit : ℕ) (e d : E) (s t u : Hart) (k k' : ℕ) (x : Option InstructionException) (ending : Ending)
      (answer : Option ℕ) (a : List Access)
      → HartRun p limit s k x t → EndsBy x ending → Called p serves limit e s k' answer d u a → ⊥
  last_or_call limit e d s t u k k' x ending answer a run ends c =
      let same =
      HartRun-unique p limit s k c.before x (Some (EnvironmentCall c.pc)) t c.at_call run c.run in
      subst (λ y. EndsBy y ending) same.1 ends

  -- two chains from environments that are alike
  abbrev pub Same : (k k' : ℕ) (ending ending' : Ending) (d d' : E) (t t' : Hart) (a a' : List Access) → Type 0
  Same k k' ending ending' d d' t t' a a' = (k' ≡ k) × (ending' ≡ ending) × alike d d' × (t' ≡ t) × (a' ≡ a)

  pub Served-unique : (ending ending' : Ending) (d d' : E) (t t' : Hart) (limit : ℕ) (e e' : E) (s : Hart)
      (k k' : ℕ) (a a' : List Access) → alike e e' → HartServed p serves ending d t limit e s k a
      → HartServed p serves ending' d' t' limit e' s k' a' → Same k k' ending ending' d d' t t' a a'
  Served-unique ending ending' d d' t t' limit e e' s k k' a a' like (Last _ _ _ _ _ x run made ends same)
      (Last _ _ _ _ _ x' run' made' ends' same') =
      let one = HartRun-unique p limit s k' k x' x t' t run' run in
      let accessed = subst (λ l. AccessesOfHartRun p s l a') (λ i. answers_of_run (one.0 i) (one.1 i)) made' in (
        one.0,
        EndsBy-unique x ending' ending (subst (λ y. EndsBy y ending') one.1 ends') ends,
        subst (λ y. alike y d') (sym same) (subst (alike e) (sym same') like),
        one.2,
        AccessesOfHartRun-unique p s (answers_of_run k x) a' a accessed made,
      )
  Served-unique _ _ _ _ _ _ _ _ _ _ _ _ _ _ like (Last _ _ _ _ _ x run _ ends _) (Exits _ _ _ _ _ _ c _) =
      absurd (last_or_call _ _ _ _ _ _ _ _ x _ _ _ run ends c)
  Served-unique _ _ _ _ _ _ _ _ _ _ _ _ _ _ like (Last _ _ _ _ _ x run _ ends _) (GoesOn _ _ _ _ _ _ _ _ _ c _) =
      absurd (last_or_call _ _ _ _ _ _ _ _ x _ _ _ run ends c)
  Served-unique _ _ _ _ _ _ _ _ _ _ _ _ _ _ like (Exits _ _ _ _ _ _ c _) (Last _ _ _ _ _ x run _ ends _) =
      absurd (last_or_call _ _ _ _ _ _ _ _ x _ _ _ run ends c)
  Served-unique _ _ _ _ _ _ _ _ _ _ _ _ _ _ like (GoesOn _ _ _ _ _ _ _ _ _ c _) (Last _ _ _ _ _ x run _ ends _) =
      absurd (last_or_call _ _ _ _ _ _ _ _ x _ _ _ run ends c)
  Served-unique _ _ _ _ _ _ _ _ _ _ _ _ _ _ like (Exits _ _ _ _ _ status c is) (Exits _ _ _ _ _ status' c' is') =
      let one = same_calls like c c' in (
        sym one.steps,
        is' ∙ ap Exit (same_Some _ _ (sym one.answers)) ∙ sym is,
        one.are_alike,
        sym one.states,
        sym one.accesses,
      )
  Served-unique _ _ _ _ _ _ _ _ _ _ _ _ _ _ like (Exits _ _ _ _ _ _ c _) (GoesOn _ _ _ _ _ _ _ _ _ c' _) =
      absurd (none-some _ (sym (same_calls like c c').answers))
  Served-unique _ _ _ _ _ _ _ _ _ _ _ _ _ _ like (GoesOn _ _ _ _ _ _ _ _ _ c _) (Exits _ _ _ _ _ _ c' _) =
      absurd (none-some _ (same_calls like c c').answers)
  Served-unique ending ending' d d' t t' limit e e' s _ _ _ _ like (GoesOn _ _ _ first later b bl q m c rest)
      (GoesOn _ _ _ first' later' b' bl' q' m' c' rest') =
      let one = same_calls like c c' in
      let moved : HartServed p serves ending' d' t' (limit - first) q' m later' bl' =
      subst (λ x. HartServed p serves ending' d' t' (limit - first) q' x later' bl') (sym one.states)
      (subst (λ n. HartServed p serves ending' d' t' (limit - n) q' m' later' bl') (sym one.steps) rest') in
      let tail = Served-unique ending ending' d d' t t' (limit - first) q q' m later later' bl bl' one.are_alike rest
      moved in
      let steps : first' + later' ≡ first + later = omega (arith, one.steps, tail.0) in
      (steps, tail.1, tail.2, tail.3, λ i. sym one.accesses i ++ tail.4 i)

-- Calls that are determined are so up to equality.
equally : {E : Type 0} (serves : Relation E) → IsDetermined serves → IsDeterminedBy serves (λ d e. d ≡ e)
equally serves determined = record {
  reflexive = λ e. refl;
  determined = λ e e' d d' s t t' a a' answer answer' same served served'. determined e' d d' s t t' a a' answer answer'
      (subst (λ x. serves x s d t a answer) same served) served';
}

pub only_served : {E : Type 0} (p : HartProfile) (serves : Relation E) (limit : ℕ) (e d : E) (s t : Hart) (steps : ℕ) (ending : Ending)
    (a : List Access) → HartServed p serves ending d t limit e s steps a → IsOnlyServed p serves limit e s steps ending d t
only_served p serves limit e d s t steps ending a served = λ determined steps' ending' d' t' a' other.
    let same = Served-unique p serves (λ x y. x ≡ y) (equally serves determined) ending ending' d d' t t' limit e e s steps
    steps' a a' refl served other in
    (same.0, same.1, sym same.2, same.3)

pub only_alike : {E : Type 0} (p : HartProfile) (serves : Relation E) (alike : E → E → Type 0) (IsMade : List Access → Type 0) (limit : ℕ)
    (e d : E) (s t : Hart) (steps : ℕ) (ending : Ending) (a : List Access) → IsMade a
    → HartServed p serves ending d t limit e s steps a → IsDeterminedBy serves alike
    → IsOnlyHartAlike p serves alike IsMade limit e s steps ending d t
only_alike p serves alike IsMade limit e d s t steps ending a made served by = λ e' d' t' steps' ending' a' like other.
    let same = Served-unique p serves alike by ending ending' d d' t t' limit e e' s steps steps' a a' like served other in
    (same.0, same.1, same.2, same.3, subst IsMade (sym same.4) made)
