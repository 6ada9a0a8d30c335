-- How a step of the hart ends as one with machine mode.
use Rattle.std.proofs.Common.{◌≡◌, ℕ, List, ◌++◌, Bool, true, false, Option, Ok, Err, refl, sym, subst, ap, ◌∙◌}
use Rattle.rrs_instruction.specs.declared.instruction_formats.IType.{IType}
use Rattle.rrs_lib.specs.declared.instruction_executor.InstructionException.{InstructionException}
use Rattle.rrs_lib.specs.declared.MemAccessSize.{MemAccessSize}
use Rattle.rrs_lib.specs.Bytes.{ByteMap}
use Rattle.rrs_lib.specs.declared.HartState.{HartState}
use Rattle.rrs_lib.specs.Machine.{State, state_of}
use Rattle.rrs_lib.specs.Accesses.{Access, Makes, MakesExactly}
use Rattle.rrs_lib.proofs.Making.{Makes-append}
use Rattle.rrs_words.specs.declared.csrs.HartProfile.{HartProfile}
use Rattle.rrs_lib.specs.Steps.{cleared}
use Rattle.rrs_words.specs.declared.instructions.SystemRow.{SystemRow}
use Rattle.rrs_hart.specs.declared.halves.Encoding.{Encoding}
use Rattle.rrs_hart.specs.Halves.{bits_of}
use Rattle.rrs_hart.specs.Harts.{Hart, hart_with, fetch_reads_in, HartStep, AccessesOfHart}
use Rattle.rrs_hart.proofs.HartSteps.{HartStep-unique, exactly_hart}
use Rattle.rrs_hart.proofs.HalvesSteps.{same_Ok, not_both}
use Rattle.rrs_machine.specs.declared.csrs.CsrFile.{CsrFile}
use Rattle.rrs_machine.specs.declared.csrs.Inputs.{Inputs}
use Rattle.rrs_machine.specs.declared.traps.AccessKind.{AccessKind}
use Rattle.rrs_machine.specs.declared.traps.Exception.TheVariants.{InstructionMisaligned}
use Rattle.rrs_machine.specs.declared.machine.MachineAnswer.{MachineAnswer}
use Rattle.rrs_machine.specs.declared.machine.MachineAnswer.TheVariants.{Retired, Raised}
use Rattle.rrs_machine.specs.Csrs.{mode_of}
use Rattle.rrs_machine.specs.Traps.{IsKind, exception_of}
use Rattle.rrs_machine.specs.MachineSteps.{MachineState, machine, ends, raised, system_outcome, hart_in, with_hart, layers_of, fetched_at, IsOwn, IsNoSystem, may_lie, retired, IsBefore, InstructionStep, Retires, Strays, Faults, Executes}
use Rattle.rrs_machine.proofs.MachineStepping.{refused, system_cleared}
use Rattle.rrs_machine.proofs.Straying.{strays_keeps}

module _ (file : CsrFile) (s : MachineState) (h : State) (before : IsBefore file s) where
  -- the machine with the hart after its step
  after_hart : with_hart (hart_with h file.reservation) s ≡ machine h file
  after_hart = ap (λ c. machine h (record c { reservation = file.reservation })) before

  profile : s.csrs.profile ≡ file.profile
  profile = ap (λ (c : CsrFile). c.profile) before

  pub retires_by : (i : Inputs) (t : MachineState) (a : MachineAnswer) → HartStep (layers_of s) (hart_in s) (hart_with h file.reservation) (Ok tt)
      → may_lie file.profile.hart h.pc ≡ true → t ≡ retired (machine h file) → a ≡ Retired → InstructionStep i s t a
  retires_by i t a step lie left is =
      Retires (hart_with h file.reservation) step (ap (λ p. may_lie p.hart h.pc) profile ∙ lie) (left ∙ ap retired (sym after_hart)) is

  -- at a jump that strays the hart is as before
  pub strays_by : (i : Inputs) (t : MachineState) (a : MachineAnswer) (last : Option ℕ) → HartStep (layers_of s) (hart_in s) (hart_with h file.reservation) (Ok tt)
      → may_lie file.profile.hart h.pc ≡ false
      → t ≡ raised (InstructionMisaligned h.pc) (machine (record h { registers = s.hart.registers; pc = s.hart.pc; last = last }) file)
      → a ≡ Raised (InstructionMisaligned h.pc) → InstructionStep i s t a
  strays_by i t a last step odd left is =
      let here = ap (λ p. may_lie p.hart h.pc) profile ∙ odd in
      let kept = strays_keeps (layers_of s) (hart_in s) (hart_with h file.reservation) step here in
      let same : file ≡ s.csrs = (λ k. record file { reservation = kept.reserved k }) ∙ sym before in
      Strays (hart_with h file.reservation) step here
      (left ∙ (λ k. raised (InstructionMisaligned h.pc)
      (machine (record { registers = s.hart.registers; pc = s.hart.pc; last = last; bytes = kept.bytes k; writable = kept.writable k }) (same k)))) is

  pub faults_by : (i : Inputs) (t : MachineState) (a : MachineAnswer) (e : InstructionException) (kind : AccessKind)
      → HartStep (layers_of s) (hart_in s) (hart_with h file.reservation) (Err e) → IsNoSystem s → IsKind file.profile.hart (fetched_at s) kind
      → t ≡ raised (exception_of (mode_of file) kind e) (machine h file) → a ≡ Raised (exception_of (mode_of file) kind e) → InstructionStep i s t a
  faults_by i t a e kind step none is left answers =
      let mode : mode_of file ≡ mode_of s.csrs = ap mode_of (sym before) in
      Faults (hart_with h file.reservation) e kind step none (subst (λ p. IsKind p.hart (fetched_at s) kind) (sym profile) is)
      (left ∙ (λ k. raised (exception_of (mode k) kind e) (sym after_hart k))) (answers ∙ (λ k. Raised (exception_of (mode k) kind e)))

  -- an instruction of machine mode, which left the hart as it was
  pub executes_by : (i : Inputs) (t : MachineState) (a : MachineAnswer) (e : InstructionException) (x : Encoding) (row : SystemRow) (f : IType)
      → HartStep (layers_of s) (hart_in s) (hart_with h file.reservation) (Err e) → fetched_at s ≡ Ok x → IsOwn x row f
      → ends t a ≡ system_outcome row f (bits_of x) i (machine h file) → InstructionStep i s t a
  executes_by i t a e x row f step there own leaves =
      let same =
      (HartStep-unique (layers_of s) (hart_in s) (hart_with h file.reservation) (hart_with (cleared s.hart) s.csrs.reservation) (Err e) _ step
      (refused s x row f there own)).0 in
      let file_is : file ≡ s.csrs = (λ k. record file { reservation = (same k).reserved }) ∙ sym before in
      Executes x row f there own
      (leaves ∙ (λ k. system_outcome row f (bits_of x) i (machine (same k).state (file_is k))) ∙ system_cleared row f (bits_of x) i s.hart s.csrs)

-- none of machine mode was fetched
pub fetched_none : (s : MachineState) (e : InstructionException) → fetched_at s ≡ Err e → IsNoSystem s
fetched_none s e is = λ x row f there own. not_both x e (fetched_at s) there is

pub other_fetched : (s : MachineState) (x : Encoding) → fetched_at s ≡ Ok x → ((row : SystemRow) (f : IType) → ¬ IsOwn x row f) → IsNoSystem s
other_fetched s x is none = λ y row f there own. none row f (subst (λ z. IsOwn z row f) (same_Ok y x (fetched_at s) there is) own)

-- ---- a step in two parts

module _ {M : Type 0} (reads : M → ℕ → MemAccessSize → M → Option ℕ → Type 0) (writes : M → ℕ → MemAccessSize → ℕ → M → Bool → Type 0)
    (bytes : M → ByteMap) (writable : M → ℕ → Bool) (p : HartProfile) (h : HartState) (r : Option ℕ) (old read : M)
    (bytes_kept : bytes read ≡ bytes old) (writable_kept : writable read ≡ writable old) where
  -- the fetch, and the accesses after it
  pub exactly_after : (new : M) → Makes reads writes (fetch_reads_in p (bytes old) h.pc) old read
      → (accesses : List Access) × AccessesOfHart p (hart_with (state_of h (bytes read) (writable read)) r) (fetch_reads_in p (bytes read) h.pc ++ accesses)
      × Makes reads writes accesses read new
      → MakesExactly reads writes (AccessesOfHart p (hart_with (state_of h (bytes old) (writable old)) r)) old new
  exactly_after new first made =
      let s = state_of h (bytes old) (writable old) in
      let are = subst (λ (x : State). AccessesOfHart p (hart_with x r) (fetch_reads_in p x.bytes x.pc ++ made.0))
      (λ k. state_of h (bytes_kept k) (writable_kept k)) made.1 in
      exactly_hart reads writes p (hart_with s r) (fetch_reads_in p s.bytes s.pc ++ made.0) old new are
      (Makes-append reads writes (fetch_reads_in p s.bytes s.pc) made.0 old read new first made.2)

  -- the fetch alone
  pub fault_after : (e : InstructionException)
      → ((s : Hart) → s.state.pc ≡ h.pc → s.state.bytes ≡ bytes old → HartStep p s (hart_with (cleared s.state) s.reserved) (Err e))
      → HartStep p (hart_with (state_of h (bytes old) (writable old)) r) (hart_with (cleared (state_of h (bytes read) (writable read))) r) (Err e)
  fault_after e step =
      let s = state_of h (bytes old) (writable old) in
      subst (λ x. HartStep p (hart_with s r) (hart_with (cleared x) r) (Err e)) (λ k. state_of h (sym bytes_kept k) (sym writable_kept k))
      (step (hart_with s r) refl refl)
