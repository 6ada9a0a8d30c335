use Rattle.std.proofs.Common.{◌≡◌, true, false, if◌then◌else◌, sym, ap, ◌∙◌}
use Rattle.rrs_machine.specs.declared.traps.Exception.TheVariants.{IllegalInstruction}
use Rattle.rrs_machine.specs.Csrs.{mode_of}
use Rattle.rrs_machine.specs.MachineSteps.{machine_of, ends, raises, is_permitted, permitted_outcome}
use Rattle.rrs_machine.proofs.machine.execute_system.Goals as goal

pub returns-then-is_permitted-clause-outcome : goal.returns-then-is_permitted-clause-outcome
returns-then-is_permitted-clause-outcome c = λ bytes writable.
    let s = machine_of c.args.hart.now c.args.csrs.now bytes writable in
    let row = c.args.instruction.now.row in
    let allowed : is_permitted row (mode_of c.args.csrs.now) c.args.csrs.now ≡ true =
    ap (λ m. is_permitted row m c.args.csrs.now) (sym c.mode.ensures) ∙ sym c.is_permitted.ensures ∙ c.if-is_permitted.true in
    c.execute_permitted.ensures.outcome bytes writable
    ∙ sym (ap (λ b. if b then permitted_outcome row c.args.instruction.now.fields c.args.word c.args.inputs.now s
    else raises (IllegalInstruction c.args.word) s) allowed)

pub returns-else-is_permitted-clause-outcome : goal.returns-else-is_permitted-clause-outcome
returns-else-is_permitted-clause-outcome c = λ bytes writable.
    let s = machine_of c.args.hart.now c.args.csrs.now bytes writable in
    let row = c.args.instruction.now.row in
    let refused : is_permitted row (mode_of c.args.csrs.now) c.args.csrs.now ≡ false =
    ap (λ m. is_permitted row m c.args.csrs.now) (sym c.mode.ensures) ∙ sym c.is_permitted.ensures ∙ c.if-is_permitted.false in
    (λ k. ends (c.raise.ensures.raised bytes writable k) (c.raise.ensures.answer k))
    ∙ sym (ap (λ b. if b then permitted_outcome row c.args.instruction.now.fields c.args.word c.args.inputs.now s
    else raises (IllegalInstruction c.args.word) s) refused)
