use Rattle.std.proofs.Common.{◌≡◌, ℕ, ◌-◌, ◌%◌, ◌≤◌, ◌<◌, ◌∙◌, subst, inl, inr, arith}
use Rattle.std.proofs.lemmas.Bool.{cases_lt}
use Rattle.rrs_lib.specs.AccessLists.{Makes}
use Rattle.rrs_lib.specs.Bytes.{EndsAtLastAddress}
use Rattle.rrs_lib.proofs.Stepping.{KeepsTheRest-trans}
use Rattle.rrs_fast.proofs.Rounds.{reached_more, reached_end, only_served, only_alike}
use Rattle.rrs_fast.proofs.serving.run_served.Goals as goal

-- where addresses end, by the first round
ends_at : {X : Type 0} (aligned : X → Type 0) (ends : X → Type 0) (now start : X) (steps limit : ℕ)
    → (steps ≡ 0 → now ≡ start) → (0 < steps → aligned start → ends start)
    → (1 ≤ limit - steps → aligned now → ends now)
    → (steps ≡ 0 → 1 ≤ limit) → aligned start → ends start
ends_at aligned ends now start steps limit at_start before by_round some even =
    elim (cases_lt 0 steps) as (λ _. ends start) [
      | inl later ↦ before later even
      | inr first ↦
          let same = at_start (omega (arith, first)) in
          subst (λ x. aligned x → ends x) same (by_round (omega (arith, first, some (omega (arith, first))))) even
    ]

pub rounds-preserved : goal.rounds-preserved
rounds-preserved g c = record {
  within = omega (arith, c.rounds.invariant.within, c.in-GoneOn.ensures.within.1);
  reached = reached_more _ _ _ _ _ _ _ _ _ _ _ _ _ _ _ _ _ c.rounds.invariant.same_profile c.rounds.invariant.reached c.in-GoneOn.ensures.round;
  same_profile = c.serve_next.ensures.same_profile ∙ c.rounds.invariant.same_profile;
  rest = KeepsTheRest-trans _ _ _ _ c.rounds.invariant.rest c.serve_next.ensures.rest;
  at_start = λ none. absurd (omega (arith, none, c.in-GoneOn.ensures.within.0));
  ends =
      λ some. ends_at (λ x. x.hart_state.now.pc % 4 ≡ 0)
      (λ x. EndsAtLastAddress (g.M.Memory.bytes x.mem.now) (g.M.Memory.writable x.mem.now)) _ _ _ c.args.limit
      c.rounds.invariant.at_start c.rounds.invariant.ends c.serve_next.ensures.ends (λ first. omega (arith, c.in-GoneOn.ensures.within));
}

pub returns-in-Ended-clause-served : goal.returns-in-Ended-clause-served
returns-in-Ended-clause-served g c =
    reached_end _ _ _ _ _ _ _ _ _ _ _ _ _ _ _ _ _ _ c.rounds.invariant.same_profile c.rounds.invariant.reached c.in-Ended.ensures.round

pub returns-in-Ended-clause-only : goal.returns-in-Ended-clause-only
returns-in-Ended-clause-only g c =
    only_served (g.R.Runner.profile c.args.runner.now) g.E.Environment.serves _ _ _ _ _ _ _ _ (returns-in-Ended-clause-served g c).these

pub returns-in-Ended-clause-only_alike : goal.returns-in-Ended-clause-only_alike
returns-in-Ended-clause-only_alike g c =
    let served = returns-in-Ended-clause-served g c in
    only_alike (g.R.Runner.profile c.args.runner.now) g.E.Environment.serves g.E.Environment.alike
    (λ a. Makes g.M.Memory.reads g.M.Memory.writes a c.args.executor.now.mem.now c.serve_next.new.executor.mem.now)
    _ _ _ _ _ _ _ _ served.made served.these

pub returns-in-Ended-clause-ends : goal.returns-in-Ended-clause-ends
returns-in-Ended-clause-ends g c = λ some.
    ends_at (λ x. x.hart_state.now.pc % 4 ≡ 0)
    (λ x. EndsAtLastAddress (g.M.Memory.bytes x.mem.now) (g.M.Memory.writable x.mem.now)) _ _ _ c.args.limit
    c.rounds.invariant.at_start c.rounds.invariant.ends c.serve_next.ensures.ends (λ first. some)
