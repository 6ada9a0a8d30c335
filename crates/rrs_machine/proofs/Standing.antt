-- A hart that stands still is dead.
use Rattle.std.proofs.Common.{◌≡◌, inl, inr, ℕ, ◌%◌, ◌^◌, ◌<◌, ◌==◌, ◌||◌, Bool, true, false, if◌then◌else◌, pos, Option, Some, None, Result, Ok, Err, refl, sym, subst, ap, ◌∙◌, arith}
use Rattle.std.proofs.lemmas.Bool.{eqb-true}
use Rattle.std.proofs.lemmas.Int.{ints}
use Rattle.std.proofs.lemmas.Option.{same_Some}
use Rattle.rrs_lib.specs.declared.instruction_executor.InstructionException.{InstructionException}
use Rattle.rrs_lib.specs.declared.instruction_executor.InstructionException.TheVariants.{FetchError, AlignmentFault}
use Rattle.rrs_instruction.specs.Encodings.{Fields, B, J}
use Rattle.rrs_instruction.specs.Table.{Row, table}
use Rattle.rrs_lib.specs.Bytes.{ByteMap, little_endian}
use Rattle.rrs_lib.specs.Machine.{State, Outcome, outcome, Executes, with_pc, plus_immediate}
use Rattle.rrs_lib.specs.Steps.{Step, Unmapped, Legal, next_word, cleared}
use Rattle.rrs_words.specs.declared.csrs.HartProfile.{HartProfile}
use Rattle.rrs_words.specs.declared.forms.ShortForm.{ShortForm}
use Rattle.rrs_words.specs.declared.forms.ShortOperands.{ShortOperands}
use Rattle.rrs_words.specs.Forms.{IsShort}
use Rattle.rrs_hart.specs.declared.halves.Encoding.{Encoding}
use Rattle.rrs_hart.specs.declared.halves.Encoding.TheVariants.{Short, Long}
use Rattle.rrs_hart.specs.Halves.{bytes_of, fetched, StandsFor, IsNotCarriedOut, relinked, AsRow, NotFetched, ARow}
use Rattle.rrs_hart.specs.Harts.{hart_with, whole, word_fetched, fetched_in, HartStep, OfKit, OfHalves}
use Rattle.rrs_hart.proofs.HartSteps.{kits_unfetched}
use Rattle.rrs_hart.proofs.Fetches.{fetched_by_words}
use Rattle.rrs_machine.specs.declared.csrs.CsrFile.{CsrFile}
use Rattle.rrs_machine.specs.declared.csrs.Inputs.{Inputs}
use Rattle.rrs_machine.specs.declared.traps.AccessKind.TheVariants.{Fetch}
use Rattle.rrs_machine.specs.declared.traps.Exception.TheVariants.{InstructionFault}
use Rattle.rrs_machine.specs.declared.machine.MachineAnswer.{MachineAnswer}
use Rattle.rrs_machine.specs.declared.machine.MachineAnswer.TheVariants.{Retired, Raised}
use Rattle.rrs_machine.specs.Csrs.{cycle_counted, instruction_counted, retired_file}
use Rattle.rrs_machine.specs.Traps.{interrupt_due, trap_file, base_of, IsKind}
use Rattle.rrs_machine.specs.MachineSteps.{MachineState, machine, raised, layers_of, fetched_at, may_lie, retired, InstructionStep, Retires, Faults, MachineStep, Proceeds}
use Rattle.rrs_machine.specs.Runs.{uncounted, IsSame, IsDead, TakesNone, LeadsBack, StandsStill}
use Rattle.rrs_machine.proofs.Ending.{fetched_none}
use Rattle.rrs_machine.proofs.KitRuns.{ok_kits}
use Rattle.rrs_machine.proofs.MachineStepping.{MachineStep-unique}

-- ---- no interrupt

abbrev pub all_pending : Inputs
all_pending = record { external = true; software = true; timer = true; time = 0 }

-- ---- what counts

choice : (b : Bool) (f g : CsrFile) → uncounted g ≡ uncounted f → uncounted (if b then f else g) ≡ uncounted f
choice true f g h = refl
choice false f g h = h

of_cycle : (f : CsrFile) → uncounted (cycle_counted f) ≡ uncounted f
of_cycle f = choice _ f _ refl

of_instruction : (f : CsrFile) → uncounted (instruction_counted f) ≡ uncounted f
of_instruction f = choice _ f _ refl

of_both : (f : CsrFile) → uncounted (retired_file f) ≡ uncounted f
of_both f = of_instruction (cycle_counted f) ∙ of_cycle f

-- ---- a step of the hart

-- what is fetched lies where it may
fetched_lies : (b : Bool) (p : HartProfile) (bytes : ByteMap) (pc : ℕ) (x : Encoding) → p.compressed ≡ b → fetched_in p bytes pc ≡ Ok x → may_lie p pc ≡ true
fetched_lies true p bytes pc x halves there = ap (λ b. b || (pc % 4 == 0)) halves
fetched_lies false p bytes pc x words there =
    λ k. words k || ((fetched_by_words p bytes pc x words there).0 k == 0)

never_short : (b : Bool) (pc : ℕ) (o : Option ℕ) (h : ℕ) → (if b then whole pc o else Err (AlignmentFault pc)) ≡ Ok (Short h) → ⊥
never_short true pc None h is = cc
never_short true pc (Some w) h is = cc
never_short false pc o h is = cc

by_words : (p : HartProfile) (bytes : ByteMap) (pc : ℕ) (x : Result Encoding InstructionException) → p.compressed ≡ false → fetched_in p bytes pc ≡ x
    → word_fetched bytes pc ≡ x
by_words p bytes pc x words is = subst (λ b. (if b then fetched bytes pc else word_fetched bytes pc) ≡ x) words is

by_halves : (p : HartProfile) (bytes : ByteMap) (pc : ℕ) (x : Result Encoding InstructionException) → p.compressed ≡ true → fetched_in p bytes pc ≡ x
    → fetched bytes pc ≡ x
by_halves p bytes pc x halves is = subst (λ b. (if b then fetched bytes pc else word_fetched bytes pc) ≡ x) halves is

-- a row that set the program counter is carried out by no bytes
ok_whole : (p : HartProfile) (row : Row) (f : Fields) (s u : State) → Executes row f s u (Ok true) → IsNotCarriedOut p row f s
ok_whole p row f s u executes = λ a o is.
    let same : outcome u (Ok true) ≡ outcome s (Err (AlignmentFault a)) = same_Some _ _ (sym executes ∙ is.refused) in
    let answers : Ok true ≡ Err (AlignmentFault a) = ap (λ (x : Outcome). x.answer) same in
    cc

made_by : (b : Bool) (p : HartProfile) (h : State) (r : Option ℕ) (x : Encoding) (row : Row) (f : Fields) (u : State) → p.compressed ≡ b
    → fetched_in p h.bytes h.pc ≡ Ok x → StandsFor x row f → Executes row f (cleared h) u (Ok true)
    → relinked (bytes_of x) (table row).action f (cleared h) u ≡ u → HartStep p (hart_with h r) (hart_with u r) (Ok tt)
made_by true p h r x row f u halves there stands executes links =
    OfHalves halves (ARow x row f (by_halves p h.bytes h.pc (Ok x) halves there) stands
    (AsRow (ok_whole p row f (cleared h) u executes)
    (record { u = u; a = Ok true; executes = executes; after = sym links; answers = refl })) refl)
made_by false p h r (Short half) row f u words there stands executes links =
    absurd (never_short (h.pc % 4 == 0) h.pc (little_endian h.bytes h.pc 4) half (by_words p h.bytes h.pc (Ok (Short half)) words there))
made_by false p h r (Long w) row f u words there stands executes links =
    let at = fetched_by_words p h.bytes h.pc (Long w) words there in
    let step : Step h u (Ok tt) = Legal w row f u (Ok true) at.0 at.1 stands executes refl refl in
    OfKit (ok_kits p h u words step) step refl

-- where nothing is mapped
unmapped_word : (b : Bool) (pc a : ℕ) (o : Option ℕ) → (if b then whole pc o else Err (AlignmentFault pc)) ≡ Err (FetchError a)
    → (b ≡ true) × (o ≡ None) × (pc ≡ a)
unmapped_word true pc a None is = (refl, refl, cc)
unmapped_word true pc a (Some w) is = absurd (cc)
unmapped_word false pc a o is = absurd (cc)

unmapped_by : (b : Bool) (p : HartProfile) (h : State) (r : Option ℕ) (a : ℕ) → p.compressed ≡ b → fetched_in p h.bytes h.pc ≡ Err (FetchError a)
    → HartStep p (hart_with h r) (hart_with (cleared h) r) (Err (FetchError a))
unmapped_by true p h r a halves there =
    OfHalves halves (NotFetched (FetchError a) (by_halves p h.bytes h.pc (Err (FetchError a)) halves there) refl)
unmapped_by false p h r a words there =
    let at = unmapped_word (h.pc % 4 == 0) h.pc a (little_endian h.bytes h.pc 4) (by_words p h.bytes h.pc (Err (FetchError a)) words there) in
    let even = eqb-true (h.pc % 4) 0 at.0 in
    let none : next_word h ≡ None = ap (λ b. if b then little_endian h.bytes h.pc 4 else None) at.0 ∙ at.1 in
    OfKit (kits_unfetched p h words none) (Unmapped even at.1 refl (ap (λ n. Err (FetchError n)) (sym at.2))) refl

-- ---- one step

module _ (i : Inputs) (s m t : MachineState) (answer : MachineAnswer) (same : IsSame s m)
    (none : interrupt_due s.csrs i ≡ None) (step : MachineStep i m t answer) where
  due : interrupt_due m.csrs i ≡ None
  due = ap (λ f. interrupt_due f i) same.csrs ∙ none

  -- a step that is known is the one that was made
  only : (t' : MachineState) (answer' : MachineAnswer) → InstructionStep i m t' answer'
      → IsSame s t' × (t'.hart.bytes ≡ m.hart.bytes) → IsSame s t × (t.hart.bytes ≡ m.hart.bytes)
  only t' answer' made holds =
      subst (λ (x : MachineState). IsSame s x × (x.hart.bytes ≡ m.hart.bytes))
      (sym (MachineStep-unique i m t t' answer answer' step (Proceeds due made)).0) holds

  stays : (pc : ℕ) → pc < 2 ^ 32 → plus_immediate pc (pos 0) ≡ pc
  stays pc low = omega (arith, ints, low)

  -- a row that sets the program counter to what it is
  returns : (x : Encoding) (row : Row) (f : Fields) → s.hart.pc < 2 ^ 32 → fetched_at m ≡ Ok x → StandsFor x row f
      → Executes row f (cleared m.hart) (with_pc (cleared m.hart) (plus_immediate m.hart.pc (pos 0))) (Ok true)
      → relinked (bytes_of x) (table row).action f (cleared m.hart) (with_pc (cleared m.hart) (plus_immediate m.hart.pc (pos 0)))
      ≡ with_pc (cleared m.hart) (plus_immediate m.hart.pc (pos 0))
      → IsSame s t × (t.hart.bytes ≡ m.hart.bytes)
  returns x row f low there stands executes links =
      let p = layers_of m in
      let u = with_pc (cleared m.hart) (plus_immediate m.hart.pc (pos 0)) in
      let here : plus_immediate m.hart.pc (pos 0) ≡ m.hart.pc = stays m.hart.pc (subst (λ n. n < 2 ^ 32) (sym same.pc) low) in
      let made = made_by p.compressed p m.hart m.csrs.reservation x row f u refl there stands executes links in
      let lie : may_lie p u.pc ≡ true = ap (may_lie p) here ∙ fetched_lies p.compressed p m.hart.bytes m.hart.pc x refl there in
      only (retired (machine u m.csrs)) Retired
      (Retires (hart_with u m.csrs.reservation) made lie refl refl)
      (record { registers = same.registers; pc = here ∙ same.pc; csrs = of_both m.csrs ∙ same.csrs }, refl)

  jumps : s.hart.pc < 2 ^ 32 → fetched_at m ≡ Ok (Long 0x6f) → IsSame s t × (t.hart.bytes ≡ m.hart.bytes)
  jumps low there =
      let f = J (record { rd = 0; imm = pos 0 }) in
      returns (Long 0x6f) Row.Jal f low there
      (record { format = refl; in_range = omega (arith, ints); functs = tt; operands = tt; encoded = refl }) refl refl

  branches : s.hart.pc < 2 ^ 32 → fetched_at m ≡ Ok (Long 0x63) → IsSame s t × (t.hart.bytes ≡ m.hart.bytes)
  branches low there =
      let f = B (record { funct3 = 0; rs1 = 0; rs2 = 0; imm = pos 0 }) in
      returns (Long 0x63) Row.Beq f low there
      (record { format = refl; in_range = omega (arith, ints); functs = refl; operands = tt; encoded = refl }) refl refl

  jumps_short : s.hart.pc < 2 ^ 32 → fetched_at m ≡ Ok (Short 0xa001) → IsSame s t × (t.hart.bytes ≡ m.hart.bytes)
  jumps_short low there =
      let o : ShortOperands = record { first = 0; second = 0; imm = 0 } in
      let is : IsShort 0xa001 ShortForm.J o = search arith in
      returns (Short 0xa001) Row.Jal (J (record { rd = 0; imm = pos 0 })) low there
      (record { form = ShortForm.J; operands = o; is = is; row_is = refl; fields_are = refl }) refl refl

  -- at the base of the handlers, where nothing is mapped
  traps : (a : ℕ) → s.hart.pc ≡ base_of s.csrs → trap_file 1 a s.hart.pc s.csrs ≡ s.csrs → fetched_at m ≡ Err (FetchError a)
      → IsSame s t × (t.hart.bytes ≡ m.hart.bytes)
  traps a at fixed there =
      let pc = m.hart.pc in
      let p = layers_of m in
      let base : base_of m.csrs ≡ base_of s.csrs = ap base_of same.csrs in
      let file : trap_file 1 a pc (uncounted m.csrs) ≡ trap_file 1 a s.hart.pc (uncounted s.csrs) =
      λ k. trap_file 1 a (same.pc k) (same.csrs k) in
      only (raised (InstructionFault a) m) (Raised (InstructionFault a))
      (Faults (hart_with (cleared m.hart) m.csrs.reservation) (FetchError a) Fetch
      (unmapped_by p.compressed p m.hart m.csrs.reservation a refl there) (fetched_none m (FetchError a) there)
      (subst (λ x. IsKind p x Fetch) (sym there) refl) refl refl) (
        record {
          registers = same.registers;
          pc = base ∙ sym at;
          csrs = of_cycle (trap_file 1 a pc m.csrs) ∙ file ∙ ap uncounted fixed;
        },
        refl,
      )

-- ---- whatever stands there

module _ (pc : ℕ) (f : CsrFile) (low : pc < 2 ^ 32) (none : TakesNone f) (s : MachineState) (csrs : s.csrs ≡ f) (at : s.hart.pc ≡ pc) where
  below : s.hart.pc < 2 ^ 32
  below = subst (λ n. n < 2 ^ 32) (sym at) low

  no_due : (i : Inputs) → interrupt_due s.csrs i ≡ None
  no_due i = ap (λ x. interrupt_due x i) csrs ∙ none i

  pub back_dead : (x : Encoding) → LeadsBack x → fetched_at s ≡ Ok x → IsDead s
  back_dead (Long w) (inl jump) there = λ i m t answer same alike step.
      jumps i s m t answer same (no_due i) step below (alike ∙ there ∙ ap (λ n. Ok (Long n)) jump)
  back_dead (Long w) (inr branch) there = λ i m t answer same alike step.
      branches i s m t answer same (no_due i) step below (alike ∙ there ∙ ap (λ n. Ok (Long n)) branch)
  back_dead (Short h) jump there = λ i m t answer same alike step.
      jumps_short i s m t answer same (no_due i) step below (alike ∙ there ∙ ap (λ n. Ok (Short n)) jump)

  pub trap_dead : (e : InstructionException) → StandsStill pc (Err e) f → fetched_at s ≡ Err e → IsDead s
  trap_dead (FetchError a) (base, fixed) there = λ i m t answer same alike step.
      traps i s m t answer same (no_due i) step a (at ∙ base ∙ ap base_of (sym csrs))
      ((λ k. trap_file 1 a (at k) (csrs k)) ∙ fixed ∙ sym csrs) (alike ∙ there)
  trap_dead _ stands there = absurd stands
