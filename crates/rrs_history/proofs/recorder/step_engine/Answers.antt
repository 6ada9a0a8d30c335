-- The fetch, and then the instruction that the word is: what the kit proves of its own step. The register that is
-- written is the one that the word names.
use Rattle.std.proofs.Common.{◌≡◌, ℕ, [], Option, IfSome, slice_index, refl, sym, subst, ap, ◌∙◌}
use Rattle.rrs_lib.specs.declared.instruction_executor.engine.Engine.{Engine}
use Rattle.rrs_lib.specs.Engines.{engine_state, EngineKeeps}
use Rattle.rrs_lib.specs.Machine.{State}
use Rattle.rrs_lib.proofs.Making.{accesses_of_illegal, accesses_of_legal, exactly-fetch, exactly-step}
use Rattle.rrs_lib.proofs.Rows.{one_row_at_most}
use Rattle.rrs_lib.proofs.Engines.{gone_on_step, EngineKeeps-trans}
use Rattle.rrs_lib.proofs.Keeping.{Step-last}
use Rattle.rrs_lib.proofs.Stepping.{illegal_step}
use Rattle.rrs_history.proofs.Written.{step_writes, value_named, value_moved}
use Rattle.rrs_history.proofs.recorder.step_engine.Goals as goal

pub returns-in-Err-clause-step : goal.returns-in-Err-clause-step
returns-in-Err-clause-step g c = c.in-Err.ensures.fault

pub returns-in-Err-clause-value : goal.returns-in-Err-clause-value
returns-in-Err-clause-value g c =
    subst (λ (last : Option ℕ). IfSome last (λ r. 0 ≡ slice_index c.args.engine.now.registers.now r))
    (sym (ap (λ (s : State). s.last) c.fetch.ensures.kept)) tt

pub returns-in-Err-clause-accesses : goal.returns-in-Err-clause-accesses
returns-in-Err-clause-accesses g c =
    exactly-fetch _ _ one_row_at_most _ _ _ _ c.in-Err.ensures.alone c.fetch.ensures.makes

pub returns-in-Some-clause-step : goal.returns-in-Some-clause-step
returns-in-Some-clause-step g c =
    let fetched = c.in-Ok.ensures in
    let done = c.in-Some.ensures.decoded in
    gone_on_step _ _ _ _ done.row done.fields c.in-Some.answer _ fetched.word.0 fetched.word.1 c.fetch.ensures.kept
    done.is done.holds.goes_on c.step_answer.ensures

pub returns-in-Some-clause-value : goal.returns-in-Some-clause-value
returns-in-Some-clause-value g c =
    let step = returns-in-Some-clause-step g c in
    value_moved _ _ _ _ _ (ap (λ (s : State). s.registers) c.fetch.ensures.kept) refl (Step-last _ _ _ step)
    (value_named _ _ _ _ (step_writes _ _ _ c.in-Ok.word c.in-Ok.ensures.word.1 step) c.entry_named-before.ensures)

pub returns-in-Some-clause-accesses : goal.returns-in-Some-clause-accesses
returns-in-Some-clause-accesses g c =
    let fetched = c.in-Ok.ensures in
    let done = c.in-Some.ensures.decoded in
    exactly-step _ _ one_row_at_most _ _ _ _ _ fetched.word.0 c.fetch.ensures.makes
    (accesses_of_legal _ _ _ done.row done.fields fetched.word.0 fetched.word.1 c.fetch.ensures.kept done.is) done.holds.makes

pub returns-in-None-clause-step : goal.returns-in-None-clause-step
returns-in-None-clause-step g c =
    let fetched = c.in-Ok.ensures in
    let state = engine_state g.M.Memory.bytes g.M.Memory.writable in
    rw c.illegal_instruction.ensures
    (illegal_step _ _ _ fetched.word.0 fetched.word.1 (ap state c.in-None.ensures.unchanged ∙ c.fetch.ensures.kept)
    c.in-None.ensures.outside)

pub returns-in-None-clause-value : goal.returns-in-None-clause-value
returns-in-None-clause-value g c =
    let step = returns-in-None-clause-step g c in
    value_moved _ _ _ _ _ (ap (λ (s : State). s.registers) c.fetch.ensures.kept) refl (Step-last _ _ _ step)
    (value_named _ _ _ _ (step_writes _ _ _ c.in-Ok.word c.in-Ok.ensures.word.1 step) c.entry_named-before.ensures)

pub returns-in-None-clause-accesses : goal.returns-in-None-clause-accesses
returns-in-None-clause-accesses g c =
    let fetched = c.in-Ok.ensures in
    exactly-step _ _ one_row_at_most _ [] _ _ _ fetched.word.0 c.fetch.ensures.makes
    (accesses_of_illegal _ _ fetched.word.0 fetched.word.1 c.in-None.ensures.outside)
    (ap (λ (e : Engine g.row.M.Denot). e.mem.now) c.in-None.ensures.unchanged)

pub returns-in-Err-clause-rest : goal.returns-in-Err-clause-rest
returns-in-Err-clause-rest g c = c.fetch.ensures.rest

pub returns-in-Some-clause-rest : goal.returns-in-Some-clause-rest
returns-in-Some-clause-rest g c =
    EngineKeeps-trans _ _ _ _ c.fetch.ensures.rest c.in-Some.ensures.decoded.holds.rest

pub returns-in-None-clause-rest : goal.returns-in-None-clause-rest
returns-in-None-clause-rest g c =
    let layout = g.M.Memory.layout in
    subst (λ (e : Engine g.row.M.Denot). EngineKeeps layout c.args.engine.now e) (sym c.in-None.ensures.unchanged)
    c.fetch.ensures.rest
