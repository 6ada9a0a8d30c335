-- What leads back, where no interrupt is taken, is dead.
use Rattle.std.proofs.Common.{◌≡◌, ◌∙◌, arith}
use Rattle.std.proofs.lemmas.Bool.{OnTrue_at, OnTrue_from}
use Rattle.rrs_machine.specs.MachineSteps.{MachineState, fetched_at}
use Rattle.rrs_machine.specs.Runs.{IsDead}
use Rattle.rrs_machine.proofs.Standing.{back_dead, trap_dead}
use Rattle.rrs_machine.proofs.csrs.CsrFile.stands_still.Goals as goal

pub returns-in-Ok-clause-dead : goal.returns-in-Ok-clause-dead
returns-in-Ok-clause-dead c =
    let f = c.args.self.now in
    OnTrue_from c.leads_back.result
    ((s : MachineState) → s.csrs ≡ f → s.hart.pc ≡ c.args.pc → fetched_at s ≡ c.args.fetched → IsDead s)
    (λ back s csrs at there. back_dead c.args.pc f (omega (arith, c.ranges.pc.fits)) (OnTrue_at c.if-not-takes_none.false c.takes_none.ensures.masked)
    s csrs at c.in-Ok.encoding (c.leads_back.ensures.0 back) (there ∙ c.in-Ok.is))

pub returns-in-Err-clause-dead : goal.returns-in-Err-clause-dead
returns-in-Err-clause-dead c =
    let f = c.args.self.now in
    OnTrue_from c.traps_again.result
    ((s : MachineState) → s.csrs ≡ f → s.hart.pc ≡ c.args.pc → fetched_at s ≡ c.args.fetched → IsDead s)
    (λ again s csrs at there. trap_dead c.args.pc f (omega (arith, c.ranges.pc.fits)) (OnTrue_at c.if-not-takes_none.false c.takes_none.ensures.masked)
    s csrs at c.in-Err.fault (c.traps_again.ensures.0 again) (there ∙ c.in-Err.is))
