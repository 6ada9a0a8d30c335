-- For proofs of programs that call their environment: a run that comes to an ecall is followed by its call, and by
-- what follows that. So from a chain that is known to be there, as by the clause `served` of `run_served`, a proof
-- learns what the environment says of the calls, one after the other. It asks nothing of the environment.
-- docs/PROGRAMS.md shows how.
use Rattle.std.proofs.Common.{◌≡◌, ℕ, ◌+◌, ◌-◌, List, Option, Some, None, sym, subst, ap, ◌∙◌}
use Rattle.std.proofs.lemmas.Option.{same_Some}
use Rattle.std.specs.Prelude.{pos}
use Rattle.rrs_lib.specs.declared.instruction_executor.InstructionException.TheVariants.{EnvironmentCall}
use Rattle.rrs_fast.specs.declared.serving.Ending.{Ending}
use Rattle.rrs_fast.specs.declared.serving.Ending.TheVariants.{Exit}
use Rattle.rrs_lib.specs.Words.{word}
use Rattle.rrs_lib.specs.Machine.{State, with_pc}
use Rattle.rrs_lib.specs.Steps.{RunUntil}
use Rattle.rrs_lib.specs.Accesses.{Access}
use Rattle.rrs_hart.specs.Harts.{Hart, hart_with, no_layers}
use Rattle.rrs_hart.proofs.HartRuns.{HartRun-unique, alone_run}
use Rattle.rrs_fast.specs.Serving.{Relation, EndsBy, Called, HartServed, Served, Last, Exits, GoesOn, resumed}

module _ {E : Type 0} (serves : Relation E) where
  -- What follows n steps to an ecall at pc, in the state u, within a limit: its call ends the program, or the chain
  -- goes on after the ecall.
  pub data Follows (ending : Ending) (e' : E) (t : State) (limit n pc : ℕ) (e : E) (u : State)
      (steps : ℕ) : Type 0 where
    Ended : (status : ℕ) (of_call : List Access)
        → serves e u e' t of_call (Some status) → ending ≡ Exit status → steps ≡ n + 1
        → Follows ending e' t limit n pc e u steps
    WentOn : (d : E) (m : State) (of_call of_later : List Access) (later : ℕ)
        → serves e u d m of_call None
        → Served serves ending e' t (limit - (n + 1)) d (with_pc m (word (pos (pc + 4)))) later of_later
        → steps ≡ n + 1 + later
        → Follows ending e' t limit n pc e u steps

  -- a call of the run that is known
  record CallOf (limit n pc : ℕ) (e : E) (u : State) (steps : ℕ) (answer : Option ℕ) (d : E) (t : Hart) : Type 0 where
    after_call : State
    of_call : List Access
    served : serves e u d after_call of_call answer
    goes_on : t ≡ hart_with (resumed answer pc after_call) None
    counted : steps ≡ n + 1

  call_of : (limit n pc : ℕ) (e d : E) (s u : State) (t : Hart) (steps : ℕ) (answer : Option ℕ) (accesses : List Access)
      → RunUntil limit s n (Some (EnvironmentCall pc)) u → Called no_layers serves limit e (hart_with s None) steps answer d t accesses
      → CallOf limit n pc e u steps answer d t
  call_of limit n pc e d s u t steps answer accesses run c =
      let same =
      HartRun-unique no_layers limit (hart_with s None) c.before n (Some (EnvironmentCall c.pc))
      (Some (EnvironmentCall pc)) c.at_call (hart_with u None) c.run (alone_run limit s n (Some (EnvironmentCall pc)) u run) in
      let call : EnvironmentCall c.pc ≡ EnvironmentCall pc = same_Some _ _ same.1 in
      let pcs : c.pc ≡ pc = cc in
      record {
        after_call = c.after_call;
        of_call = c.of_call;
        served = subst (λ (x : Hart). serves e x.state d c.after_call c.of_call answer) same.2 c.served;
        goes_on = c.goes_on ∙ (λ i. hart_with (resumed answer (pcs i) c.after_call) (same.2 i).reserved);
        counted = c.counted ∙ ap (λ k. k + 1) same.0;
      }

  pub follows : (ending : Ending) (e' : E) (t : State) (limit n pc : ℕ) (e : E) (s u : State) (steps : ℕ) (accesses : List Access)
      → RunUntil limit s n (Some (EnvironmentCall pc)) u → Served serves ending e' t limit e s steps accesses
      → Follows ending e' t limit n pc e u steps
  follows ending e' t limit n pc e s u steps accesses run (Last _ _ _ _ _ end last _ ends _) =
      let same = HartRun-unique no_layers limit (hart_with s None) steps n end (Some (EnvironmentCall pc)) (hart_with t None)
      (hart_with u None) last (alone_run limit s n (Some (EnvironmentCall pc)) u run) in
      absurd (subst (λ x. EndsBy x ending) same.1 ends)
  follows ending e' t limit n pc e s u steps accesses run (Exits _ _ _ _ _ status called is) =
      let c = call_of limit n pc e e' s u (hart_with t None) steps (Some status) accesses run called in
      let left : t ≡ c.after_call = ap (λ (h : Hart). h.state) c.goes_on in
      Ended status c.of_call
      (subst (λ x. serves e u e' x c.of_call (Some status)) (sym left) c.served) is c.counted
  follows ending e' t limit n pc e s u _ _ run (GoesOn _ _ _ first later of_first of_later d m called rest) =
      let c = call_of limit n pc e d s u m first None of_first run called in
      let behind = subst (λ x. HartServed no_layers serves ending e' (hart_with t None) (limit - first) d x later of_later) c.goes_on rest in
      WentOn d c.after_call c.of_call of_later later c.served
      (subst (λ k. Served serves ending e' t (limit - k) d (with_pc c.after_call (word (pos (pc + 4)))) later of_later) c.counted behind) (ap (λ k. k + later) c.counted)
