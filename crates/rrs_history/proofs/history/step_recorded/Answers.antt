-- The change that was told is the latest one.
use Rattle.std.proofs.Common.{◌≡◌, refl, false}
use Rattle.rrs_lib.specs.Executor.{state_in}
use Rattle.rrs_history.specs.Histories.{changes, past}
use Rattle.rrs_history.proofs.Remembering.{remembers, cleared_past, on_ok, on_err}
use Rattle.rrs_history.proofs.Carrying.{tells_start}
use Rattle.rrs_history.proofs.history.step_recorded.Goals as goal

pub returns-then-is_ok-clause-remembered : goal.returns-then-is_ok-clause-remembered
returns-then-is_ok-clause-remembered g c =
    let noted = c.step_noted-answer.ensures in
    let pushed = c.push.ensures in
    on_ok _ (remembers _ _ _ _ _ noted.starts noted.undoes pushed.changes pushed.room pushed.within)

pub returns-then-is_ok-clause-told : goal.returns-then-is_ok-clause-told
returns-then-is_ok-clause-told g c =
    let noted = c.step_noted-answer.ensures in
    on_ok _ (tells_start _ _ _ false noted.starts noted.of_step c.push.ensures.changes)

pub returns-else-is_ok-clause-kept : goal.returns-else-is_ok-clause-kept
returns-else-is_ok-clause-kept g c =
    let memory = g.M.Memory in
    let cs = changes c.args.history.now in
    let s = state_in memory.bytes memory.writable c.args.executor.now in
    let t = state_in memory.bytes memory.writable c.step_noted-answer.new.executor in
    let Kept : Type 0 = (cs ≡ cs) × (past cs t ≡ past cs s) in
    on_err {Q = Kept} _ (λ same. (refl, cleared_past cs s t same)) c.step_noted-answer.ensures.fault
