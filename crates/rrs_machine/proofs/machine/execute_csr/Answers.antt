use Rattle.std.proofs.Common.{◌≡◌, ◌&&◌, true, if◌then◌else◌, Some, None, sym, ap, ◌∙◌}
use Rattle.rrs_machine.specs.declared.traps.Exception.TheVariants.{IllegalInstruction}
use Rattle.rrs_machine.specs.declared.machine.MachineAnswer.TheVariants.{Retired}
use Rattle.rrs_words.specs.CsrNumbers.{is_read_only}
use Rattle.rrs_machine.specs.Csrs.{found_csr}
use Rattle.rrs_words.specs.SystemInstructions.{csr_number, writes_csr}
use Rattle.rrs_machine.specs.MachineSteps.{machine_of, ends, raises, accessed, csr_outcome}
use Rattle.rrs_machine.proofs.machine.execute_csr.Goals as goal

pub returns-then-is_read_only-clause-outcome : goal.returns-then-is_read_only-clause-outcome
returns-then-is_read_only-clause-outcome c = λ bytes writable.
    let s = machine_of c.args.hart.now c.args.csrs.now bytes writable in
    let i = c.args.inputs.now in
    let row = c.args.instruction.now.row in
    let f = c.args.instruction.now.fields in
    let w = c.args.word in
    let number = sym c.csr_number-number.ensures in
    let found : found_csr c.args.csrs.now (csr_number f) ≡ Some c.in-Some.csr = ap (found_csr c.args.csrs.now) number ∙ sym c.found.ensures ∙ c.in-Some.is in
    let writes : writes_csr row f ≡ true = sym c.writes_csr.ensures ∙ c.if-writes_csr.true in
    let only : is_read_only (csr_number f) ≡ true = ap is_read_only number ∙ sym c.is_read_only.ensures ∙ c.if-is_read_only.true in
    let refused = raises (IllegalInstruction w) s in
    let allowed = ends (accessed row f c.in-Some.csr i s) Retired in
    let outcome : csr_outcome row f w (found_csr c.args.csrs.now (csr_number f)) i s ≡ refused =
    ap (λ o. csr_outcome row f w o i s) found
    ∙ (λ k. if (writes k && only k) then refused else allowed) in
    (λ k. ends (c.raise.ensures.raised bytes writable k) (c.raise.ensures.answer k)) ∙ sym outcome

pub returns-in-None-clause-outcome : goal.returns-in-None-clause-outcome
returns-in-None-clause-outcome c = λ bytes writable.
    let s = machine_of c.args.hart.now c.args.csrs.now bytes writable in
    let i = c.args.inputs.now in
    let row = c.args.instruction.now.row in
    let f = c.args.instruction.now.fields in
    let w = c.args.word in
    let none : found_csr c.args.csrs.now (csr_number f) ≡ None = ap (found_csr c.args.csrs.now) (sym c.csr_number-number.ensures) ∙ sym c.found.ensures ∙ c.in-None.is in
    (λ k. ends (c.raise-in-None.ensures.raised bytes writable k) (c.raise-in-None.ensures.answer k))
    ∙ sym (ap (λ o. csr_outcome row f w o i s) none)
