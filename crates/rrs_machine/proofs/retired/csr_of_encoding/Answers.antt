use Rattle.std.proofs.Common.{◌≡◌, true, Some, sym, subst, ap, ◌∙◌}
use Rattle.rrs_words.specs.CsrNumbers.{csr_at}
use Rattle.rrs_words.specs.SystemInstructions.{csr_number}
use Rattle.rrs_machine.specs.Csrs.{csr_value}
use Rattle.rrs_machine.specs.MachineSteps.{operand_of}
use Rattle.rrs_machine.specs.MachineRecords.{is_on_csr, csr_access}
use Rattle.rrs_machine.proofs.MachineStepping.{own-unique}
use Rattle.rrs_machine.proofs.retired.csr_of_encoding.Goals as goal

pub returns-in-Some-clause-of_csr : goal.returns-in-Some-clause-of_csr
returns-in-Some-clause-of_csr c = λ s row f csr registers own on found.
    let i = c.in-Some.instruction in
    let file = c.args.csrs.now in
    let same = own-unique c.args.encoding i.row row i.fields f c.in-Some.ensures.own own in
    let at : csr_at file.profile (csr_number i.fields) ≡ Some csr = ap (λ x. csr_at file.profile (csr_number x)) same.1 ∙ found in
    c.csr_of_instruction.ensures.of_csr s csr registers (subst (λ x. is_on_csr x ≡ true) (sym same.0) on) at
    ∙ (λ k. csr_access file.profile (same.0 k) (same.1 k) csr (csr_value csr file c.args.inputs.now) (operand_of (same.0 k) (same.1 k) s))
