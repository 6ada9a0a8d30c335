use Rattle.std.proofs.Common.{◌≡◌, ◌%◌, Ok, refl, arith}
use Rattle.rrs_lib.specs.Bytes.{EndsAtLastAddress}
use Rattle.std.proofs.lemmas.List.{replicate_more}
use Rattle.rrs_lib.specs.Steps.{StepAnswer}
use Rattle.rrs_lib.proofs.Stepping.{KeepsTheRest-trans}
use Rattle.rrs_hart.specs.Harts.{Hart, HartStep, AccessesOfHart}
use Rattle.rrs_hart.proofs.Chains.{ChainOk-more, chain_exactly, at_first}
use Rattle.rrs_hart.proofs.HartRuns.{one_of_hart, only_run, kits_run}
use Rattle.rrs_hart.proofs.runs.run_hart.Goals as goal

-- nothing is mapped from 2 ^ 32 on, if a word is fetched
abbrev ends : Hart → Type 0
ends h = h.state.pc % 4 ≡ 0 → EndsAtLastAddress h.state.bytes h.state.writable

pub loop-steps-preserved : goal.loop-steps-preserved
loop-steps-preserved g c =
    let before = c.loop-steps.invariant in
    let p = c.args.profile in
    let ok : StepAnswer = Ok tt in
    record {
      runs = ChainOk-more (HartStep p) _ _ _ _ before.runs c.in_default.ensures.step;
      accesses = rw (← replicate_more c.loop-steps.steps ok) (chain_exactly (HartStep p) (AccessesOfHart p) (one_of_hart p) _ _ _ _ _ _ _ _ _ _ before.runs before.accesses c.in_default.ensures.step c.step_hart.ensures.accesses);
      rest = KeepsTheRest-trans _ _ _ _ before.rest c.step_hart.ensures.rest;
      ends = λ some. at_first (HartStep p) ends c.loop-steps.steps _ _ before.runs before.ends c.step_hart.ensures.ends;
    }

pub returns-in-Err-clause-ends : goal.returns-in-Err-clause-ends
returns-in-Err-clause-ends g c = λ some.
    at_first (HartStep c.args.profile) ends c.loop-steps.steps _ _ c.loop-steps.invariant.runs c.loop-steps.invariant.ends c.step_hart.ensures.ends

pub returns-clause-ends : goal.returns-clause-ends
returns-clause-ends g c = λ some.
    let all : c.loop-steps.steps ≡ c.args.limit = omega arith in
    c.loop-steps.invariant.ends (omega (arith, all, some))

pub returns-in-Err-clause-run : goal.returns-in-Err-clause-run
returns-in-Err-clause-run g c = (omega arith, (_, c.loop-steps.invariant.runs, c.in-Err.ensures.step))

pub returns-in-Err-clause-accesses : goal.returns-in-Err-clause-accesses
returns-in-Err-clause-accesses g c =
    let p = c.args.profile in
    chain_exactly (HartStep p) (AccessesOfHart p) (one_of_hart p) _ _ _ _ _ _ _ _ _ _ c.loop-steps.invariant.runs c.loop-steps.invariant.accesses c.in-Err.ensures.step c.step_hart.ensures.accesses

pub returns-in-Err-clause-rest : goal.returns-in-Err-clause-rest
returns-in-Err-clause-rest g c = KeepsTheRest-trans _ _ _ _ c.loop-steps.invariant.rest c.step_hart.ensures.rest

pub returns-clause-run : goal.returns-clause-run
returns-clause-run g c =
    let all : c.loop-steps.steps ≡ c.args.limit = omega arith in
    (refl, rw all at c.loop-steps.invariant.runs)

pub returns-clause-accesses : goal.returns-clause-accesses
returns-clause-accesses g c =
    let all : c.loop-steps.steps ≡ c.args.limit = omega arith in
    rw all at c.loop-steps.invariant.accesses

pub returns-clause-rest : goal.returns-clause-rest
returns-clause-rest g c = c.loop-steps.invariant.rest

pub returns-clause-only : goal.returns-clause-only
returns-clause-only g c = only_run _ _ _ _ _ _ (returns-clause-run g c)

pub returns-in-Err-clause-only : goal.returns-in-Err-clause-only
returns-in-Err-clause-only g c = only_run _ _ _ _ _ _ (returns-in-Err-clause-run g c)

pub returns-clause-kit : goal.returns-clause-kit
returns-clause-kit g c = kits_run _ _ _ _ _ _ _ _ (λ halves. omega arith) (returns-clause-run g c)

pub returns-in-Err-clause-kit : goal.returns-in-Err-clause-kit
returns-in-Err-clause-kit g c = kits_run _ _ _ _ _ _ _ _ (λ halves. omega arith) (returns-in-Err-clause-run g c)
