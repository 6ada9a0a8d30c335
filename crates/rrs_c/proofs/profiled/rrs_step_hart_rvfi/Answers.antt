-- The step is that of the hart, over the same state and the same words, and a state has one.
use Rattle.std.proofs.Common.{ℕ, Option, rules, sym}
use Rattle.rrs_lib.specs.Machine.{State}
use Rattle.rrs_lib.specs.Steps.{StepAnswer}
use Rattle.rrs_words.specs.declared.csrs.HartProfile.{HartProfile}
use Rattle.rrs_hart.specs.Harts.{hart_with, HartStep}
use Rattle.rrs_hart.proofs.HartSteps.{HartStep-unique}
use Rattle.rrs_c.specs.Harts.{answer_of}
use Rattle.rrs_c.specs.Profiled.{hart_profile_in, reserved_in}
use Rattle.rrs_c.proofs.Carrying.{carried}
use Rattle.rrs_c.proofs.profiled.rrs_step_hart_rvfi.Goals as goal

pub returns-clause-step : goal.returns-clause-step
returns-clause-step c =
    let lent = c.step_hart_retired_lent-answer in
    carried (λ (s t : State) (x : Option ℕ × Option ℕ × HartProfile × StepAnswer). HartStep x.2 (hart_with s x.0) (hart_with t x.1) x.3)
    c.opened-state.result lent.new.hart_state c.args.hart.now c.close.new.hart
    c.args.base lent.new.mem.base c.args.words.now lent.new.mem.words.now _
    (c.reservation_of-reserved.result, lent.new.reservation, c.hart_profile_of-profile.result, lent.result.0)
    (reserved_in c.args.reservation.now, reserved_in c.reservation_told.result, hart_profile_in c.args.profile, answer_of c.fault_of_answer.result)
    c.opened-state.ensures.same (c.close.ensures.same lent.ensures.last) lent.ensures.lent.same_base (search rules)
    (λ i. (sym c.reservation_of-reserved.ensures i, c.reservation_told.ensures.same i, sym c.hart_profile_of-profile.ensures i, c.fault_of_answer.ensures.same i))
    lent.ensures.step

pub returns-clause-only : goal.returns-clause-only
returns-clause-only c = λ t answer other.
    HartStep-unique _ _ t _ answer _ other (returns-clause-step c)
