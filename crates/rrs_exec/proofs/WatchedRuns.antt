-- Chains of runs and calls that begin by one step, and runs that are made of turns.
use Rattle.std.proofs.Common.{◌≡◌, ℕ, suc, ◌+◌, ◌-◌, ◌<◌, ◌≤◌, List, [], ◌++◌, Bool, true, false, Option, Some, None, Ok, Err, refl, sym, subst, ap, ◌∙◌, append_assoc, arith}
use Rattle.std.proofs.lemmas.List.{append-nil}
use Rattle.rrs_lib.specs.declared.instruction_executor.InstructionException.{InstructionException}
use Rattle.rrs_lib.specs.declared.instruction_executor.InstructionException.TheVariants.{EnvironmentCall}
use Rattle.rrs_lib.specs.Machine.{State}
use Rattle.rrs_lib.specs.Steps.{StepAnswer}
use Rattle.rrs_lib.specs.Accesses.{Access, answers_of_run}
use Rattle.rrs_trace.specs.declared.retired.Retired.{Retired}
use Rattle.rrs_words.specs.declared.csrs.HartProfile.{HartProfile}
use Rattle.rrs_hart.specs.Harts.{Hart, hart_with, HartStep, HartRun, AccessesOfHart, AccessesOfHartRun}
use Rattle.rrs_fast.specs.declared.serving.Ending.{Ending}
use Rattle.rrs_fast.specs.declared.serving.Ending.TheVariants.{Limit, Fault, Exit}
use Rattle.rrs_fast.specs.Serving.{Relation, Called, HartServed, Last, Exits, GoesOn}
use Rattle.rrs_fast.proofs.Rounds.{ends_by_fault}
use Rattle.rrs_exec.specs.Watching.{ServesAt, SeesStep, Turn, Stepped, Faulted, Turns, NoTurn, OneMore, ToLimit, ToExit, ToFault, IsWatched}
use Rattle.rrs_exec.specs.Watching.{Called as CalledTurn}

-- a watcher that wants no more does not want more
pub no_more : {P : Type 0} (b : Bool) → b ≡ false → b ≡ true → P
no_more b below above = absurd (let differ : false ≡ true = sym below ∙ above in cc)

-- a step, and its accesses
pub record Steps (p : HartProfile) (s t : Hart) (answer : StepAnswer) : Type 0 where
  pub step : HartStep p s t answer
  pub accesses : List Access
  pub of : AccessesOfHart p s accesses

stepped : {V : Type 0} (p : HartProfile) (sees : V → Retired → V → Type 0) (n : ℕ) (v w : V) (s t : Hart) (answer : StepAnswer) (a : List Access)
    → SeesStep p sees n v s answer t w → AccessesOfHart p s a → Steps p s t answer
stepped p sees n v w s t answer a seen of = record { step = seen.step; accesses = a; of = of }

-- ---- a step before a run

module _ (p : HartProfile) where
  run_first : (x : Option InstructionException) (limit steps : ℕ) (s m t : Hart) → HartStep p s m (Ok tt)
      → HartRun p limit m steps x t → HartRun p (suc limit) s (suc steps) x t
  run_first None limit steps s m t step run = (ap suc run.0, (m, step, run.1))
  run_first (Some e) limit steps s m t step run =
      (omega (arith, run.0), (run.1.0, (m, step, run.1.1), run.1.2))

  accesses_first : (x : Option InstructionException) (steps : ℕ) (s m : Hart) (a b : List Access) → HartStep p s m (Ok tt)
      → AccessesOfHart p s a → AccessesOfHartRun p m (answers_of_run steps x) b
      → AccessesOfHartRun p s (answers_of_run (suc steps) x) (a ++ b)
  accesses_first None steps s m a b step of are = (m, a, b, step, of, are, refl)
  accesses_first (Some e) steps s m a b step of are = (m, a, b, step, of, are, refl)

module _ {E : Type 0} (p : HartProfile) (serves : Relation E) where
  -- a program runs on from there and ends so, by some accesses
  abbrev RunsOn : Ending → E → Hart → ℕ → E → Hart → ℕ → Type 0
  RunsOn ending e' t limit e s steps =
      (accesses : List Access) × HartServed p serves ending e' t limit e s steps accesses

  called_first : (limit : ℕ) (e d : E) (s m t : Hart) (steps : ℕ) (answer : Option ℕ) (b : List Access)
      → (first : Steps p s m (Ok tt)) → Called p serves limit e m steps answer d t b
      → Called p serves (suc limit) e s (suc steps) answer d t (first.accesses ++ b)
  called_first limit e d s m t steps answer b first c = record {
    before = suc c.before;
    pc = c.pc;
    at_call = c.at_call;
    after_call = c.after_call;
    of_run = first.accesses ++ c.of_run;
    of_call = c.of_call;
    run = run_first p (Some (EnvironmentCall c.pc)) limit c.before s m c.at_call first.step c.run;
    accessed = accesses_first p (Some (EnvironmentCall c.pc)) c.before s m first.accesses c.of_run first.step first.of c.accessed;
    served = c.served;
    goes_on = c.goes_on;
    counted = omega (arith, c.counted);
    all = ap (λ x. first.accesses ++ x) c.all ∙ sym (append_assoc first.accesses c.of_run c.of_call);
  }

  served_first : (ending : Ending) (e' : E) (t : Hart) (limit : ℕ) (e : E) (s m : Hart) (steps : ℕ) (b : List Access)
      → (first : Steps p s m (Ok tt)) → HartServed p serves ending e' t limit e m steps b
      → HartServed p serves ending e' t (suc limit) e s (suc steps) (first.accesses ++ b)
  served_first ending e' t limit e s m steps b step (Last _ _ _ _ _ x run are ends same) =
      Last (suc limit) e s (suc steps) (step.accesses ++ b) x (run_first p x limit steps s m t step.step run)
      (accesses_first p x steps s m step.accesses b step.step step.of are) ends same
  served_first ending e' t limit e s m steps b step (Exits _ _ _ _ _ status c is) =
      Exits (suc limit) e s (suc steps) (step.accesses ++ b) status (called_first limit e e' s m t steps (Some status) b step c) is
  served_first ending e' t limit e s m _ _ step (GoesOn _ _ _ first later x y d u c rest) =
      let less : limit - first ≡ suc limit - suc first = omega arith in
      let a = step.accesses in
      let whole =
      GoesOn (suc limit) e s (suc first) later (a ++ x) y d u (called_first limit e d s m u first None x step c)
      (subst (λ n. HartServed p serves ending e' t n d u later y) less rest) in
      let sum : suc first + later ≡ suc (first + later) = omega arith in
      let all : (a ++ x) ++ y ≡ a ++ (x ++ y) = append_assoc a x y in
      subst (λ n. HartServed p serves ending e' t (suc limit) e s n (a ++ (x ++ y))) sum
      (subst (λ l. HartServed p serves ending e' t (suc limit) e s (suc first + later) l) all whole)

  on_first : (ending : Ending) (e' : E) (t : Hart) (limit : ℕ) (e : E) (s m : Hart) (steps : ℕ)
      → Steps p s m (Ok tt) → RunsOn ending e' t limit e m steps → RunsOn ending e' t (suc limit) e s (suc steps)
  on_first ending e' t limit e s m steps step (accesses, served) =
      (step.accesses ++ accesses, served_first ending e' t limit e s m steps accesses step served)

  -- a run that is at its limit
  at_end : (e : E) (t : Hart) → RunsOn Limit e t 0 e t 0
  at_end e t = ([], Last 0 e t 0 [] None (refl, refl) refl refl refl)

  -- an ecall, and its call, as a round of their own
  one_call : (rest : ℕ) (e d : E) (s m t : Hart) (u : State) (pc : ℕ) (answer : Option ℕ) (of_call : List Access)
      → (first : Steps p s m (Err (EnvironmentCall pc))) → ServesAt serves pc e m.state answer d u of_call → t ≡ hart_with u m.reserved
      → Called p serves (suc rest) e s 1 answer d t (first.accesses ++ of_call)
  one_call rest e d s m t u pc answer of_call first call is = record {
    before = 0;
    pc = pc;
    at_call = m;
    after_call = call.after_call;
    of_run = first.accesses;
    of_call = of_call;
    run = (omega arith, (s, refl, first.step));
    accessed = (m, first.accesses, [], first.step, first.of, refl, sym (append-nil first.accesses));
    served = call.served;
    goes_on = is ∙ ap (λ x. hart_with x m.reserved) call.goes_on;
    counted = omega arith;
    all = refl;
  }

  -- an ecall and its call before a run
  call_first : (ending : Ending) (e' : E) (t : Hart) (limit : ℕ) (e d : E) (s k m : Hart) (u : State) (pc later : ℕ) (of_call : List Access)
      → Steps p s k (Err (EnvironmentCall pc)) → ServesAt serves pc e k.state None d u of_call → m ≡ hart_with u k.reserved
      → RunsOn ending e' t limit d m later → RunsOn ending e' t (suc limit) e s (suc later)
  call_first ending e' t limit e d s k m u pc later of_call first call is (accesses, served) =
      let less : limit ≡ suc limit - 1 = omega arith in
      let a = first.accesses ++ of_call in
      let whole =
      GoesOn (suc limit) e s 1 later a accesses d m (one_call limit e d s k m u pc None of_call first call is)
      (subst (λ x. HartServed p serves ending e' t x d m later accesses) less served) in
      let sum : 1 + later ≡ suc later = omega arith in
      (a ++ accesses, subst (λ x. HartServed p serves ending e' t (suc limit) e s x (a ++ accesses)) sum whole)

  -- a fault that is no ecall, as a run of no steps
  fault_alone : (rest : ℕ) (e e' : E) (s t : Hart) (fault : InstructionException) → Steps p s t (Err fault)
      → ((pc : ℕ) → fault ≡ EnvironmentCall pc → ⊥) → e' ≡ e → RunsOn (Fault fault) e' t (suc rest) e s 0
  fault_alone rest e e' s t fault first no_call same =
      let a = first.accesses in (
        a,
        Last (suc rest) e s 0 a (Some fault) (omega arith, (s, refl, first.step))
            (t, a, [], first.step, first.of, refl, sym (append-nil a)) (ends_by_fault fault no_call) same,
      )

  -- ---- turns

  module _ {V : Type 0} (sees : V → Retired → V → Type 0) where
    turn_first : (n : ℕ) (e d e' : E) (s m t : Hart) (v w : V) (ending : Ending) (rest later : ℕ) (a : List Access)
        → Turn p serves sees n e s v (Ok None) d m w a → RunsOn ending e' t rest d m later
        → RunsOn ending e' t (suc rest) e s (suc later)
    turn_first n e d e' s m t v w ending rest later a (Stepped seen of answers same) run =
        on_first ending e' t rest e s m later (stepped p sees n v w s m (Ok tt) a seen of)
        (subst (λ z. RunsOn ending e' t rest z m later) same run)
    turn_first n e d e' s m t v w ending rest later a (Faulted fault seen of no_call answers same) run = absurd (cc (answers))
    turn_first n e d e' s m t v w ending rest later a (CalledTurn pc None k u of_step of_call seen of call is answers all) run =
        call_first ending e' t rest e d s k m u pc later of_call (stepped p sees n v w s k (Err (EnvironmentCall pc)) of_step seen of) call is run
    turn_first n e d e' s m t v w ending rest later a (CalledTurn pc (Some status) k u of_step of_call seen of call is answers all) run = absurd (cc (answers))

    turn_exits : (n : ℕ) (e e' : E) (s t : Hart) (v w : V) (status rest : ℕ) (a : List Access)
        → Turn p serves sees n e s v (Ok (Some status)) e' t w a → RunsOn (Exit status) e' t (suc rest) e s 1
    turn_exits n e e' s t v w status rest a (Stepped seen of answers same) = absurd (cc (answers))
    turn_exits n e e' s t v w status rest a (Faulted fault seen of no_call answers same) = absurd (cc (answers))
    turn_exits n e e' s t v w status rest a (CalledTurn pc None k u of_step of_call seen of call is answers all) = absurd (cc (answers))
    turn_exits n e e' s t v w status rest a (CalledTurn pc (Some other) k u of_step of_call seen of call is answers all) =
        let same : status ≡ other = cc (answers) in
        let first = stepped p sees n v w s k (Err (EnvironmentCall pc)) of_step seen of in
        let accesses = first.accesses ++ of_call in
        (accesses, Exits (suc rest) e s 1 accesses other (one_call rest e e' s k t u pc (Some other) of_call first call is) (ap Exit same))

    turn_faults : (n : ℕ) (e e' : E) (s t : Hart) (v w : V) (fault : InstructionException) (rest : ℕ) (a : List Access)
        → Turn p serves sees n e s v (Err fault) e' t w a → RunsOn (Fault fault) e' t (suc rest) e s 0
    turn_faults n e e' s t v w fault rest a (Stepped seen of answers same) = absurd (cc (answers))
    turn_faults n e e' s t v w fault rest a (Faulted other seen of no_call answers same) =
        let is : fault ≡ other = cc (answers) in
        subst (λ y. RunsOn (Fault y) e' t (suc rest) e s 0) (sym is)
        (fault_alone rest e e' s t other (stepped p sees n v w s t (Err other) a seen of) no_call same)
    turn_faults n e e' s t v w fault rest a (CalledTurn pc end k u of_step of_call seen of call is answers all) = absurd (cc (answers))

    module _ (wants : V → Bool) where
      -- The turns so far lead from the start to here: what follows from here follows from the start.
      pub record Leads (e : E) (s : Hart) (v : V) (steps : ℕ) (d : E) (u : Hart) (w : V) : Type 0 where
        pub goes_on : (ending : Ending) (e' : E) (t : Hart) (rest later : ℕ) → RunsOn ending e' t rest d u later
            → RunsOn ending e' t (steps + rest) e s (steps + later)
        pub shown : Turns p serves sees wants e s v steps d u w

      pub leads_none : (e : E) (s : Hart) (v : V) → Leads e s v 0 e s v
      leads_none e s v = record {
        goes_on = λ ending e' t rest later run.
            let first : rest ≡ 0 + rest = omega arith in
            let second : later ≡ 0 + later = omega arith in
            subst (λ x. RunsOn ending e' t x e s (0 + later)) first
            (subst (λ x. RunsOn ending e' t rest e s x) second run);
        shown = NoTurn;
      }

      leads_on : (e d e1 : E) (s u t1 : Hart) (v w w1 : V) (steps : ℕ) (a : List Access)
          → wants w ≡ true → Leads e s v steps d u w → Turn p serves sees steps d u w (Ok None) e1 t1 w1 a
          → Leads e s v (steps + 1) e1 t1 w1
      leads_on e d e1 s u t1 v w w1 steps a wanted before turn = record {
        goes_on = λ ending e' t rest later run.
            let next = turn_first steps d e1 e' u t1 t w w1 ending rest later a turn run in
            let whole = before.goes_on ending e' t (suc rest) (suc later) next in
            let first : steps + suc rest ≡ steps + 1 + rest = omega arith in
            let second : steps + suc later ≡ steps + 1 + later = omega arith in
            subst (λ x. RunsOn ending e' t x e s (steps + 1 + later)) first
            (subst (λ x. RunsOn ending e' t (steps + suc rest) e s x) second whole);
        shown = OneMore steps d e1 u t1 w w1 a before.shown wanted turn;
      }

      pub leads_more : (e d e1 : E) (s u t1 : Hart) (v w w1 : V) (steps : ℕ) (a : List Access) (answer : Option ℕ)
          → answer ≡ None → wants w ≡ true → Leads e s v steps d u w
          → Turn p serves sees steps d u w (Ok answer) e1 t1 w1 a → Leads e s v (steps + 1) e1 t1 w1
      leads_more e d e1 s u t1 v w w1 steps a answer is wanted before turn =
          leads_on e d e1 s u t1 v w w1 steps a wanted before
          (subst (λ x. Turn p serves sees steps d u w (Ok x) e1 t1 w1 a) is turn)

      pub ends_at_limit : (limit : ℕ) (e d : E) (s u : Hart) (v w : V) (steps now : ℕ)
          → now ≡ steps → steps ≤ limit → (wants w ≡ true → steps ≡ limit) → Leads e s v now d u w
          → IsWatched p serves sees wants limit e s v steps Limit d u w
      ends_at_limit limit e d s u v w steps now is within all here =
          let before = subst (λ n. Leads e s v n d u w) is here in
          let same : steps + 0 ≡ steps = omega arith in
          let whole = subst (λ x. RunsOn Limit d u x e s x) same (before.goes_on Limit d u 0 0 (at_end d u)) in
          record {
            most = steps;
            within = within;
            all = all;
            accesses = whole.0;
            served = whole.1;
            shown = ToLimit before.shown refl;
          }

      pub ends_by_exit : (limit : ℕ) (e d e' : E) (s u t : Hart) (v w v' : V) (steps status : ℕ) (a : List Access)
          (answer : Option ℕ) → answer ≡ Some status → steps < limit → wants w ≡ true → Leads e s v steps d u w
          → Turn p serves sees steps d u w (Ok answer) e' t v' a
          → IsWatched p serves sees wants limit e s v (steps + 1) (Exit status) e' t v'
      ends_by_exit limit e d e' s u t v w v' steps status a answer is below wanted before given =
          let turn = subst (λ x. Turn p serves sees steps d u w (Ok x) e' t v' a) is given in
          let rest = limit - (steps + 1) in
          let full : steps + suc rest ≡ limit = omega (arith, below) in
          let whole = subst (λ x. RunsOn (Exit status) e' t x e s (steps + 1)) full
          (before.goes_on (Exit status) e' t (suc rest) 1 (turn_exits steps d e' u t w v' status rest a turn)) in
          record {
            most = limit;
            within = omega arith;
            all = λ _. refl;
            accesses = whole.0;
            served = whole.1;
            shown = ToExit steps status d u w a before.shown wanted turn refl refl;
          }

      pub ends_by_fault_at : (limit : ℕ) (e d e' : E) (s u t : Hart) (v w v' : V) (steps : ℕ) (a : List Access)
          (fault : InstructionException) → steps < limit → wants w ≡ true → Leads e s v steps d u w
          → Turn p serves sees steps d u w (Err fault) e' t v' a
          → IsWatched p serves sees wants limit e s v steps (Fault fault) e' t v'
      ends_by_fault_at limit e d e' s u t v w v' steps a fault below wanted before turn =
          let rest = limit - (steps + 1) in
          let full : steps + suc rest ≡ limit = omega (arith, below) in
          let same : steps + 0 ≡ steps = omega arith in
          let whole = subst (λ x. RunsOn (Fault fault) e' t limit e s x) same
          (subst (λ x. RunsOn (Fault fault) e' t x e s (steps + 0)) full
          (before.goes_on (Fault fault) e' t (suc rest) 0 (turn_faults steps d e' u t w v' fault rest a turn))) in
          record {
            most = limit;
            within = omega arith;
            all = λ _. refl;
            accesses = whole.0;
            served = whole.1;
            shown = ToFault fault d u w a before.shown wanted turn refl;
          }
