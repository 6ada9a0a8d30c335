use Rattle.std.proofs.Common.{ap, ◌∙◌}
use Rattle.rrs_machine.specs.declared.machine.MachineAnswer.TheVariants.{Raised}
use Rattle.rrs_machine.specs.Traps.{exception_of}
use Rattle.rrs_machine.specs.MachineSteps.{machine_of, raised}
use Rattle.rrs_machine.proofs.machine.raise_fault.Goals as goal

pub returns-clause-raised : goal.returns-clause-raised
returns-clause-raised c = λ bytes writable.
    let kind = c.kind_of-kind.result in
    let x = c.exception_of.ensures ∙ ap (λ m. exception_of m kind c.args.fault) c.mode.ensures in (
      kind,
      c.kind_of-kind.ensures,
      c.raise.ensures.raised bytes writable ∙ ap (λ e. raised e (machine_of c.args.hart.now c.args.csrs.now bytes writable)) x,
      c.raise.ensures.answer ∙ ap Raised x,
    )
