-- Which register was written last by a step with machine mode.
use Rattle.std.proofs.Common.{ℕ, zero, suc, ◌<◌, ◌&&◌, ◌^◌, ℤ, Option, Some, None, Ok, sym, subst, ap, arith}
use Rattle.std.proofs.lemmas.Bool.{cond_both}
use Rattle.rrs_instruction.specs.declared.instruction_formats.IType.{IType}
use Rattle.rrs_lib.specs.Machine.{State, put}
use Rattle.rrs_lib.specs.Steps.{LastIsRegister, cleared}
use Rattle.rrs_words.specs.declared.csrs.Csr.{Csr}
use Rattle.rrs_words.specs.declared.instructions.SystemRow.{SystemRow}
use Rattle.rrs_words.specs.declared.instructions.SystemRow.TheVariants.{Csrrw, Csrrs, Csrrc, Csrrwi, Csrrsi, Csrrci, Mret, Wfi, FenceI}
use Rattle.rrs_words.specs.CsrNumbers.{is_read_only}
use Rattle.rrs_words.specs.SystemInstructions.{csr_number, writes_csr}
use Rattle.rrs_hart.specs.declared.halves.Encoding.{Encoding}
use Rattle.rrs_hart.specs.declared.halves.Encoding.TheVariants.{Short, Long}
use Rattle.rrs_hart.specs.Halves.{bits_of}
use Rattle.rrs_hart.proofs.HartLast.{HartStep-last}
use Rattle.rrs_machine.specs.declared.csrs.Inputs.{Inputs}
use Rattle.rrs_machine.specs.declared.machine.MachineAnswer.{MachineAnswer}
use Rattle.rrs_machine.specs.Csrs.{mode_of, found_csr}
use Rattle.rrs_machine.specs.MachineSteps.{MachineState, MachineOutcome, hart_in, layers_of, IsOwn, InstructionStep, Retires, Strays, Faults, Executes, MachineStep, Interrupts, Proceeds, csr_outcome, is_permitted, permitted_outcome, system_outcome}

put_last : (s : State) (r : ℕ) (z : ℤ) → r < 2 ^ 5 → LastIsRegister (put (cleared s) r z).last
put_last s zero z low = tt
put_last s (suc r) z low = (omega arith, omega arith)

csr_last : (row : SystemRow) (f : IType) (w : ℕ) (o : Option Csr) (i : Inputs) (s : MachineState) → f.rd < 2 ^ 5
    → LastIsRegister (csr_outcome row f w o i s).after.hart.last
csr_last row f w None i s low = tt
csr_last row f w (Some csr) i s low =
    cond_both (writes_csr row f && is_read_only (csr_number f)) _ _ (λ (o : MachineOutcome). LastIsRegister o.after.hart.last)
    (λ _. tt) (λ _. put_last s.hart f.rd _ low)

permitted_last : (row : SystemRow) (f : IType) (w : ℕ) (i : Inputs) (s : MachineState) → f.rd < 2 ^ 5
    → LastIsRegister (permitted_outcome row f w i s).after.hart.last
permitted_last Mret f w i s low = tt
permitted_last Wfi f w i s low = tt
permitted_last FenceI f w i s low = csr_last FenceI f w (found_csr s.csrs (csr_number f)) i s low
permitted_last Csrrw f w i s low = csr_last Csrrw f w (found_csr s.csrs (csr_number f)) i s low
permitted_last Csrrs f w i s low = csr_last Csrrs f w (found_csr s.csrs (csr_number f)) i s low
permitted_last Csrrc f w i s low = csr_last Csrrc f w (found_csr s.csrs (csr_number f)) i s low
permitted_last Csrrwi f w i s low = csr_last Csrrwi f w (found_csr s.csrs (csr_number f)) i s low
permitted_last Csrrsi f w i s low = csr_last Csrrsi f w (found_csr s.csrs (csr_number f)) i s low
permitted_last Csrrci f w i s low = csr_last Csrrci f w (found_csr s.csrs (csr_number f)) i s low

outcome_last : (row : SystemRow) (f : IType) (w : ℕ) (i : Inputs) (s : MachineState) → f.rd < 2 ^ 5
    → LastIsRegister (system_outcome row f w i s).after.hart.last
outcome_last row f w i s low =
    cond_both (is_permitted row (mode_of s.csrs) s.csrs) _ _ (λ (o : MachineOutcome). LastIsRegister o.after.hart.last)
    (λ _. permitted_last row f w i s low) (λ _. tt)

own_register : (x : Encoding) (row : SystemRow) (f : IType) → IsOwn x row f → f.rd < 2 ^ 5
own_register (Short h) row f own = absurd own
own_register (Long w) row f own = own.1.in_range.0

abbrev HasLast : MachineState → Type 0
HasLast t = LastIsRegister t.hart.last

instruction_last : (i : Inputs) (s t : MachineState) (a : MachineAnswer) → InstructionStep i s t a → HasLast t
instruction_last i s t a (Retires u step lie after is) = subst HasLast (sym after) (HartStep-last (layers_of s) (hart_in s) u (Ok tt) step)
instruction_last i s t a (Strays u step odd after is) = subst HasLast (sym after) tt
instruction_last i s t a (Faults u e k step none kind after is) = subst HasLast (sym after) tt
instruction_last i s t a (Executes x row f there own leaves) =
    subst HasLast (sym (ap (λ (o : MachineOutcome). o.after) leaves)) (outcome_last row f (bits_of x) i s (own_register x row f own))

pub machine_last : (i : Inputs) (s t : MachineState) (a : MachineAnswer) → MachineStep i s t a → HasLast t
machine_last i s t a (Interrupts x due after is) = subst HasLast (sym after) tt
machine_last i s t a (Proceeds none step) = instruction_last i s t a step
