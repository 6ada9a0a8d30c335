use Rattle.std.proofs.Common.{sym, ap, ◌∙◌}
use Rattle.rrs_lib.specs.Machine.{state_of}
use Rattle.rrs_hart.specs.Anywhere.{answer_of}
use Rattle.rrs_hart.specs.Harts.{moved}
use Rattle.rrs_hart.proofs.step.end_access.Goals as goal

pub returns-in-Ok-clause-moved : goal.returns-in-Ok-clause-moved
returns-in-Ok-clause-moved c = λ bytes writable.
    c.go_on.ensures.moved bytes writable
    ∙ ap (λ x. moved c.args.size (state_of c.args.hart.now bytes writable) (answer_of x)) (sym c.in-Ok.is)
