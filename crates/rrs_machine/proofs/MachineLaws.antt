-- Laws of a step with machine mode.
use Rattle.std.proofs.Common.{◌≡◌, ◌≢◌, ℕ, ◌+◌, ◌%◌, ◌^◌, ◌==◌, ◌&&◌, Bool, true, false, if◌then◌else◌, Option, Some, None, Ok, refl, sym, subst, ap, ◌∙◌}
use Rattle.rrs_instruction.specs.declared.instruction_formats.IType.{IType}
use Rattle.rrs_machine.specs.declared.csrs.CsrFile.{CsrFile}
use Rattle.rrs_words.specs.declared.csrs.Csr.{Csr}
use Rattle.rrs_words.specs.declared.csrs.Csr.TheVariants.{Mcycle, Mcycleh, Minstret, Minstreth}
use Rattle.rrs_machine.specs.declared.csrs.Inputs.{Inputs}
use Rattle.rrs_words.specs.declared.instructions.SystemRow.{SystemRow}
use Rattle.rrs_words.specs.declared.instructions.SystemRow.TheVariants.{Mret, Wfi}
use Rattle.rrs_machine.specs.declared.traps.Exception.TheVariants.{IllegalInstruction, InstructionMisaligned}
use Rattle.rrs_machine.specs.declared.traps.Interrupt.{Interrupt}
use Rattle.rrs_machine.specs.declared.machine.MachineAnswer.{MachineAnswer}
use Rattle.rrs_machine.specs.declared.machine.MachineAnswer.TheVariants.{Retired, Waiting, Raised, Interrupted}
use Rattle.rrs_instruction.specs.Words.{bit}
use Rattle.rrs_lib.specs.Machine.{State}
use Rattle.rrs_hart.specs.Halves.{bits_of}
use Rattle.rrs_hart.specs.Harts.{hart_with, HartStep}
use Rattle.rrs_hart.proofs.HartFaults.{fault_keeps}
use Rattle.rrs_words.specs.CsrNumbers.{is_read_only}
use Rattle.rrs_machine.specs.Csrs.{mode_of, found_csr, csr_written, cycle_counted, instruction_counted, retired_file, counted_beside}
use Rattle.rrs_words.specs.SystemInstructions.{csr_number, writes_csr}
use Rattle.rrs_machine.specs.Traps.{ready_interrupt, trap_file, return_file, exception_of}
use Rattle.rrs_machine.specs.MachineSteps.{MachineState, MachineOutcome, ends, trapped, raises, accessed, csr_outcome, passed, wait_answer, is_permitted, permitted_outcome, system_outcome, hart_in, with_hart, layers_of, IsNoSystem, Retires, Strays, Faults, Executes, MachineStep, Interrupts, Proceeds}
use Rattle.rrs_machine.proofs.Counting.{retired_at}
use Rattle.rrs_machine.specs.Laws.{KeepsValues, KeepsUnlessRetired, WritesNeither, instructions_after, cycles_after}

-- ---- what a trap keeps

trap_keeps : (cause value target : ℕ) (s t : MachineState) → t ≡ trapped cause value target s → KeepsValues s.hart t.hart
trap_keeps cause value target s t after = record {
  registers_kept = ap (λ (x : MachineState). x.hart.registers) after;
  bytes_kept = ap (λ (x : MachineState). x.hart.bytes) after;
  writable_kept = ap (λ (x : MachineState). x.hart.writable) after;
}

-- an outcome keeps the values, unless an instruction retired
abbrev Keeping : MachineState → MachineOutcome → Type 0
Keeping s o = KeepsUnlessRetired o.answer s.hart o.after.hart

raises_keeps : (w : ℕ) (s : MachineState) → Keeping s (raises (IllegalInstruction w) s)
raises_keeps w s = record { registers_kept = refl; bytes_kept = refl; writable_kept = refl }

choice_keeps : (b : Bool) (s t : MachineState) (x : MachineOutcome) → Keeping s x → Keeping s (if b then x else ends t Retired)
choice_keeps true s t x keeps = keeps
choice_keeps false s t x keeps = tt

csr_keeps : (row : SystemRow) (f : IType) (w : ℕ) (csr : Option Csr) (i : Inputs) (s : MachineState) → Keeping s (csr_outcome row f w csr i s)
csr_keeps row f w None i s = raises_keeps w s
csr_keeps row f w (Some csr) i s =
    choice_keeps (writes_csr row f && is_read_only (csr_number f)) s (accessed row f csr i s) (raises (IllegalInstruction w) s) (raises_keeps w s)

wait_keeps : (x : Option Interrupt) (s : MachineState) → Keeping s (ends (passed s) (wait_answer x))
wait_keeps (Some x) s = tt
wait_keeps None s = record { registers_kept = refl; bytes_kept = refl; writable_kept = refl }

permitted_keeps : (row : SystemRow) (f : IType) (w : ℕ) (i : Inputs) (s : MachineState) → Keeping s (permitted_outcome row f w i s)
permitted_keeps Mret f w i s = tt
permitted_keeps Wfi f w i s = wait_keeps (ready_interrupt s.csrs i) s
permitted_keeps row f w i s = csr_keeps row f w (found_csr s.csrs (csr_number f)) i s

refused_keeps : (b : Bool) (s : MachineState) (x y : MachineOutcome) → Keeping s x → Keeping s y → Keeping s (if b then x else y)
refused_keeps true s x y keeps other = keeps
refused_keeps false s x y keeps other = other

system_keeps : (row : SystemRow) (f : IType) (w : ℕ) (i : Inputs) (s : MachineState) → Keeping s (system_outcome row f w i s)
system_keeps row f w i s =
    refused_keeps (is_permitted row (mode_of s.csrs) s.csrs) s _ _ (permitted_keeps row f w i s) (raises_keeps w s)

by_answer : (a b : MachineAnswer) (s t : State) → a ≡ b → KeepsUnlessRetired b s t → KeepsUnlessRetired a s t
by_answer a b s t is keeps = subst (λ x. KeepsUnlessRetired x s t) (sym is) keeps

pub step_keeps : (i : Inputs) (s t : MachineState) (a : MachineAnswer) → MachineStep i s t a → KeepsUnlessRetired a s.hart t.hart
step_keeps i s t a (Interrupts x due after is) = by_answer a _ s.hart t.hart is (trap_keeps _ _ _ s t after)
step_keeps i s t a (Proceeds none (Retires u step even after is)) = by_answer a Retired s.hart t.hart is tt
step_keeps i s t a (Proceeds none (Strays u step odd after is)) = by_answer a _ s.hart t.hart is (trap_keeps _ _ _ s t after)
step_keeps i s t a (Proceeds none (Faults u e k step spares kind after is)) =
    let kept = fault_keeps (layers_of s) (hart_in s) u e step in
    let keeps = subst (λ h. KeepsValues h t.hart) kept (trap_keeps _ _ _ (with_hart u s) t after) in
    by_answer a _ s.hart t.hart is
    (record { registers_kept = keeps.registers_kept; bytes_kept = keeps.bytes_kept; writable_kept = keeps.writable_kept })
step_keeps i s t a (Proceeds none (Executes x row f there own leaves)) =
    subst (Keeping s) (sym leaves) (system_keeps row f (bits_of x) i s)

-- ---- a step of the hart

pub step_of_hart : (i : Inputs) (s t : MachineState) (a : MachineAnswer) → MachineStep i s t a → a ≡ Retired → IsNoSystem s
    → HartStep (layers_of s) (hart_in s) (hart_in t) (Ok tt)
step_of_hart i s t a (Interrupts x due after is) retired spares = absurd (cc)
step_of_hart i s t a (Proceeds none (Retires u step lie after is)) retired spares =
    let file = (with_hart u s).csrs in
    let kept = ap (λ (x : CsrFile). x.reservation) (retired_at file) in
    subst (λ (x : MachineState). HartStep (layers_of s) (hart_in s) (hart_in x) (Ok tt)) (sym after)
    (subst (λ r. HartStep (layers_of s) (hart_in s) (hart_with u.state r) (Ok tt)) (sym kept) step)
step_of_hart i s t a (Proceeds none (Strays u step odd after is)) retired spares = absurd (cc)
step_of_hart i s t a (Proceeds none (Faults u e k step spares' kind after is)) retired spares = absurd (cc)
step_of_hart i s t a (Proceeds none (Executes x row f there own leaves)) retired spares = absurd (spares x row f there own)

-- ---- the counters

-- a choice between files that differ in another field
other_minstret : (b : Bool) (f : CsrFile) (n : ℕ) → (if b then f else record f { mcycle = n }).minstret ≡ f.minstret
other_minstret true f n = refl
other_minstret false f n = refl

other_mcycle : (b : Bool) (f : CsrFile) (n : ℕ) → (if b then f else record f { minstret = n }).mcycle ≡ f.mcycle
other_mcycle true f n = refl
other_mcycle false f n = refl

other_inhibit : (b : Bool) (f : CsrFile) (n : ℕ) → (if b then f else record f { mcycle = n }).mcountinhibit ≡ f.mcountinhibit
other_inhibit true f n = refl
other_inhibit false f n = refl

cycle-minstret : (f : CsrFile) → (cycle_counted f).minstret ≡ f.minstret
cycle-minstret f = other_minstret (bit f.mcountinhibit 0 == 1) f ((f.mcycle + 1) % 2 ^ 64)

cycle-mcycle : (f : CsrFile) → bit f.mcountinhibit 0 ≡ 0 → (cycle_counted f).mcycle ≡ (f.mcycle + 1) % 2 ^ 64
cycle-mcycle f on = ap (λ n. (if n == 1 then f else record f { mcycle = (f.mcycle + 1) % 2 ^ 64 }).mcycle) on

instruction-mcycle : (f : CsrFile) → (instruction_counted f).mcycle ≡ f.mcycle
instruction-mcycle f = other_mcycle (bit f.mcountinhibit 2 == 1) f ((f.minstret + 1) % 2 ^ 64)

instruction-minstret : (f : CsrFile) → bit f.mcountinhibit 2 ≡ 0 → (instruction_counted f).minstret ≡ (f.minstret + 1) % 2 ^ 64
instruction-minstret f on = ap (λ n. (if n == 1 then f else record f { minstret = (f.minstret + 1) % 2 ^ 64 }).minstret) on

retired-minstret : (f : CsrFile) → bit f.mcountinhibit 2 ≡ 0 → (retired_file f).minstret ≡ (f.minstret + 1) % 2 ^ 64
retired-minstret f on =
    let same = other_inhibit (bit f.mcountinhibit 0 == 1) f ((f.mcycle + 1) % 2 ^ 64) in
    instruction-minstret (cycle_counted f) (ap (λ n. bit n 2) same ∙ on) ∙ ap (λ n. (n + 1) % 2 ^ 64) (cycle-minstret f)

retired-mcycle : (f : CsrFile) → bit f.mcountinhibit 0 ≡ 0 → (retired_file f).mcycle ≡ (f.mcycle + 1) % 2 ^ 64
retired-mcycle f on = instruction-mcycle (cycle_counted f) ∙ cycle-mcycle f on

written-minstret : (csr : Csr) (v : ℕ) (f : CsrFile) → (csr ≢ Minstret) × (csr ≢ Minstreth) → bit f.mcountinhibit 2 ≡ 0
    → (csr_written csr v (counted_beside csr f)).minstret ≡ (f.minstret + 1) % 2 ^ 64
written-minstret Mcycle v f spares on = instruction-minstret f on
written-minstret Mcycleh v f spares on = instruction-minstret f on
written-minstret Minstret v f spares on = absurd (spares.0 refl)
written-minstret Minstreth v f spares on = absurd (spares.1 refl)
written-minstret _ v f spares on = retired-minstret f on

written-mcycle : (csr : Csr) (v : ℕ) (f : CsrFile) → (csr ≢ Mcycle) × (csr ≢ Mcycleh) → bit f.mcountinhibit 0 ≡ 0
    → (csr_written csr v (counted_beside csr f)).mcycle ≡ (f.mcycle + 1) % 2 ^ 64
written-mcycle Mcycle v f spares on = absurd (spares.0 refl)
written-mcycle Mcycleh v f spares on = absurd (spares.1 refl)
written-mcycle Minstret v f spares on = cycle-mcycle f on
written-mcycle Minstreth v f spares on = cycle-mcycle f on
written-mcycle _ v f spares on = retired-mcycle f on

abbrev reserving : Option ℕ → CsrFile → CsrFile
reserving r file = record file { reservation = r }

-- a trap is taken
abbrev IsTrap : MachineAnswer → Type 0
IsTrap (Raised x) = Unit {0}
IsTrap (Interrupted x) = Unit {0}
IsTrap _ = ⊥

-- What a counter is after a step, by what it is after each way to count. The two CSRs are its halves.
module _ (counter : CsrFile → ℕ) (after : MachineAnswer → ℕ → ℕ) (low high : Csr) (s : MachineState)
    (at_trap : (r : Option ℕ) (cause value pc : ℕ) (a : MachineAnswer) → IsTrap a
    → counter (cycle_counted (trap_file cause value pc (reserving r s.csrs))) ≡ after a (counter s.csrs))
    (at_wait : counter (retired_file s.csrs) ≡ after Waiting (counter s.csrs))
    (at_retired : (r : Option ℕ) → counter (retired_file (reserving r s.csrs)) ≡ after Retired (counter s.csrs))
    (at_return : counter (retired_file (return_file s.csrs)) ≡ after Retired (counter s.csrs))
    (at_written : (csr : Csr) (v : ℕ) → (csr ≢ low) × (csr ≢ high)
    → counter (csr_written csr v (counted_beside csr s.csrs)) ≡ after Retired (counter s.csrs)) where
  abbrev Counts : MachineOutcome → Type 0
  Counts o = counter o.after.csrs ≡ after o.answer (counter s.csrs)

  if_written : (b : Bool) (csr : Csr) (v : ℕ) → (b ≡ true → (csr ≢ low) × (csr ≢ high))
      → counter (if b then csr_written csr v (counted_beside csr s.csrs) else retired_file s.csrs) ≡ after Retired (counter s.csrs)
  if_written true csr v spares = at_written csr v (spares refl)
  if_written false csr v spares = at_retired s.csrs.reservation

  if_allowed : (b : Bool) (w : ℕ) (t : MachineState) → Counts (ends t Retired)
      → Counts (if b then raises (IllegalInstruction w) s else ends t Retired)
  if_allowed true w t counts = at_trap s.csrs.reservation 2 w s.hart.pc (Raised (IllegalInstruction w)) tt
  if_allowed false w t counts = counts

  csr_counts : (row : SystemRow) (f : IType) (w : ℕ) (o : Option Csr) (i : Inputs)
      → ((csr : Csr) → writes_csr row f ≡ true → o ≡ Some csr → (csr ≢ low) × (csr ≢ high)) → Counts (csr_outcome row f w o i s)
  csr_counts row f w None i spares = at_trap s.csrs.reservation 2 w s.hart.pc (Raised (IllegalInstruction w)) tt
  csr_counts row f w (Some csr) i spares =
      if_allowed (writes_csr row f && is_read_only (csr_number f)) w (accessed row f csr i s)
      (if_written (writes_csr row f) csr _ (λ writes. spares csr writes refl))

  wait_counts : (x : Option Interrupt) → Counts (ends (passed s) (wait_answer x))
  wait_counts (Some x) = at_retired s.csrs.reservation
  wait_counts None = at_wait

  permitted_counts : (row : SystemRow) (f : IType) (w : ℕ) (i : Inputs)
      → ((csr : Csr) → writes_csr row f ≡ true → found_csr s.csrs (csr_number f) ≡ Some csr → (csr ≢ low) × (csr ≢ high))
      → Counts (permitted_outcome row f w i s)
  permitted_counts Mret f w i spares = at_return
  permitted_counts Wfi f w i spares = wait_counts (ready_interrupt s.csrs i)
  permitted_counts row f w i spares = csr_counts row f w (found_csr s.csrs (csr_number f)) i spares

  if_permitted : (b : Bool) (w : ℕ) (o : MachineOutcome) → Counts o → Counts (if b then o else raises (IllegalInstruction w) s)
  if_permitted true w o counts = counts
  if_permitted false w o counts = at_trap s.csrs.reservation 2 w s.hart.pc (Raised (IllegalInstruction w)) tt

  system_counts : (row : SystemRow) (f : IType) (w : ℕ) (i : Inputs)
      → ((csr : Csr) → writes_csr row f ≡ true → found_csr s.csrs (csr_number f) ≡ Some csr → (csr ≢ low) × (csr ≢ high))
      → Counts (system_outcome row f w i s)
  system_counts row f w i spares =
      if_permitted (is_permitted row (mode_of s.csrs) s.csrs) w _ (permitted_counts row f w i spares)

  trap_counts : (r : Option ℕ) (cause value pc : ℕ) (t : MachineState) (a b : MachineAnswer)
      → t.csrs ≡ cycle_counted (trap_file cause value pc (reserving r s.csrs)) → a ≡ b → IsTrap b → counter t.csrs ≡ after a (counter s.csrs)
  trap_counts r cause value pc t a b leaves is trap =
      ap counter leaves ∙ at_trap r cause value pc b trap ∙ ap (λ y. after y (counter s.csrs)) (sym is)

  step_counts : (i : Inputs) (t : MachineState) (a : MachineAnswer) → MachineStep i s t a → WritesNeither low high s
      → counter t.csrs ≡ after a (counter s.csrs)
  step_counts i t a (Interrupts x due leaves is) spares =
      trap_counts s.csrs.reservation _ _ _ t a (Interrupted x) (ap (λ (y : MachineState). y.csrs) leaves) is tt
  step_counts i t a (Proceeds none (Retires u step lie leaves is)) spares =
      ap (λ (x : MachineState). counter x.csrs) leaves ∙ at_retired u.reserved ∙ ap (λ y. after y (counter s.csrs)) (sym is)
  step_counts i t a (Proceeds none (Strays u step odd leaves is)) spares =
      trap_counts s.csrs.reservation _ _ _ t a (Raised (InstructionMisaligned u.state.pc)) (ap (λ (y : MachineState). y.csrs) leaves) is tt
  step_counts i t a (Proceeds none (Faults u e k step spares' kind leaves is)) spares =
      trap_counts u.reserved _ _ _ t a (Raised (exception_of (mode_of s.csrs) k e)) (ap (λ (y : MachineState). y.csrs) leaves) is tt
  step_counts i t a (Proceeds none (Executes x row f there own leaves)) spares =
      subst Counts (sym leaves) (system_counts row f (bits_of x) i (λ csr. spares x row f csr there own))

-- minstret counts the instructions that retire
pub step_minstret : (i : Inputs) (s t : MachineState) (a : MachineAnswer) → MachineStep i s t a → bit s.csrs.mcountinhibit 2 ≡ 0
    → WritesNeither Minstret Minstreth s → t.csrs.minstret ≡ instructions_after a s.csrs.minstret
step_minstret i s t a step on spares =
    step_counts (λ f. f.minstret) instructions_after Minstret Minstreth s
    at_trap (retired-minstret s.csrs on) (λ r. retired-minstret (reserving r s.csrs) on) (retired-minstret (return_file s.csrs) on)
    (λ csr v other. written-minstret csr v s.csrs other on) i t a step spares
  where
    at_trap : (r : Option ℕ) (cause value pc : ℕ) (a : MachineAnswer) → IsTrap a
        → (cycle_counted (trap_file cause value pc (reserving r s.csrs))).minstret ≡ instructions_after a s.csrs.minstret
    at_trap r cause value pc (Raised x) trap = cycle-minstret (trap_file cause value pc (reserving r s.csrs))
    at_trap r cause value pc (Interrupted x) trap = cycle-minstret (trap_file cause value pc (reserving r s.csrs))
    at_trap r cause value pc Retired trap = absurd trap
    at_trap r cause value pc Waiting trap = absurd trap

-- mcycle counts the steps
pub step_mcycle : (i : Inputs) (s t : MachineState) (a : MachineAnswer) → MachineStep i s t a → bit s.csrs.mcountinhibit 0 ≡ 0
    → WritesNeither Mcycle Mcycleh s → t.csrs.mcycle ≡ cycles_after a s.csrs.mcycle
step_mcycle i s t a step on spares =
    step_counts (λ f. f.mcycle) cycles_after Mcycle Mcycleh s
    at_trap (retired-mcycle s.csrs on) (λ r. retired-mcycle (reserving r s.csrs) on) (retired-mcycle (return_file s.csrs) on)
    (λ csr v other. written-mcycle csr v s.csrs other on) i t a step spares
  where
    at_trap : (r : Option ℕ) (cause value pc : ℕ) (a : MachineAnswer) → IsTrap a
        → (cycle_counted (trap_file cause value pc (reserving r s.csrs))).mcycle ≡ cycles_after a s.csrs.mcycle
    at_trap r cause value pc (Raised x) trap = cycle-mcycle (trap_file cause value pc (reserving r s.csrs)) on
    at_trap r cause value pc (Interrupted x) trap = cycle-mcycle (trap_file cause value pc (reserving r s.csrs)) on
    at_trap r cause value pc Retired trap = absurd trap
    at_trap r cause value pc Waiting trap = absurd trap
