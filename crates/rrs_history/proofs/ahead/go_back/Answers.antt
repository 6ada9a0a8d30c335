-- Step by step, the latest change leads nearer to the first state.
use Rattle.std.proofs.Common.{◌≡◌, ◌<◌, rules, List, refl, ◌∙◌}
use Rattle.rrs_lib.specs.Accesses.{Access, Makes}
use Rattle.rrs_lib.specs.Executor.{state_in}
use Rattle.rrs_lib.proofs.Stepping.{KeepsTheRest-trans}
use Rattle.rrs_history.specs.declared.change.Change.{Change}
use Rattle.rrs_history.proofs.Returning.{remaining, one_back, all_back}
use Rattle.rrs_history.proofs.ahead.go_back.Goals as goal

pub steps-init : goal.steps-init
steps-init g c = (
  λ first s fits w. remaining c.args.steps first c.args.history.now s _ fits w,
  refl,
  record { entry_zero = refl; layout_kept = refl; same_memory = refl; same_hart = refl },
)

pub steps-preserved : goal.steps-preserved
steps-preserved g c =
    let memory = g.M.Memory in
    let state = state_in memory.bytes memory.writable in
    let now = c.steps.executor in
    let next = c.step_back-change.new.executor in
    let back = c.step_back-change.ensures in
    let more : 0 < c.steps.left = search rules in
    let Q : Change → List Access → Type 0 = λ change accesses. Makes memory.reads memory.writes accesses now.mem.now next.mem.now in (
      λ first s fits w. one_back c.steps.left s (state now) (state next) _ c.steps.history c.step_back-change.new.history more
          (c.steps.invariant.0 first s fits w) c.step_back-change.result Q back.taken back.none,
      back.room ∙ c.steps.invariant.1,
      KeepsTheRest-trans memory.layout _ _ _ c.steps.invariant.2 back.rest,
    )

pub returns-clause-back : goal.returns-clause-back
returns-clause-back g c =
    let state = state_in g.M.Memory.bytes g.M.Memory.writable in
    let none : c.steps.left ≡ 0 = search rules in
    λ first s fits w. (all_back c.steps.left s (state c.steps.executor) _ c.steps.history none (c.steps.invariant.0 first s fits w)).0

pub returns-clause-kept : goal.returns-clause-kept
returns-clause-kept g c =
    let state = state_in g.M.Memory.bytes g.M.Memory.writable in
    let none : c.steps.left ≡ 0 = search rules in
    λ first s fits w. (all_back c.steps.left s (state c.steps.executor) _ c.steps.history none (c.steps.invariant.0 first s fits w)).1
