-- Each state has one step with machine mode, and one list of accesses.
use Rattle.std.proofs.Common.{◌≡◌, ℕ, ◌&&◌, pos, List, Bool, if◌then◌else◌, true, false, Option, Some, None, Result, Ok, Err, refl, sym, subst, ap, ◌∙◌}
use Rattle.std.proofs.lemmas.Bool.{false≢true}
use Rattle.std.proofs.lemmas.Option.{none-some, same_Some}
use Rattle.rrs_lib.specs.declared.instruction_executor.InstructionException.{InstructionException}
use Rattle.rrs_lib.specs.declared.instruction_executor.InstructionException.TheVariants.{IllegalInstruction}
use Rattle.rrs_instruction.specs.declared.instruction_formats.IType.{IType}
use Rattle.rrs_instruction.specs.Table.{IsIllegal}
use Rattle.rrs_lib.specs.Machine.{State, put}
use Rattle.rrs_lib.specs.Steps.{Illegal, cleared}
use Rattle.rrs_lib.specs.Accesses.{Access}
use Rattle.rrs_lib.proofs.Keeping.{same_reg}
use Rattle.rrs_words.specs.declared.csrs.Csr.{Csr}
use Rattle.rrs_words.specs.declared.csrs.HartProfile.{HartProfile}
use Rattle.rrs_words.specs.declared.instructions.SystemRow.{SystemRow}
use Rattle.rrs_words.specs.declared.instructions.SystemRow.TheVariants.{Mret, Wfi, FenceI}
use Rattle.rrs_words.specs.declared.layers.LayerInstruction.{LayerInstruction}
use Rattle.rrs_words.specs.declared.layers.LayerInstruction.TheVariants.{System, Atomic, Bits}
use Rattle.rrs_words.specs.CsrNumbers.{is_read_only}
use Rattle.rrs_words.specs.SystemInstructions.{has_immediate, writes_csr, csr_number}
use Rattle.rrs_words.proofs.SystemRows.{system-unique}
use Rattle.rrs_hart.specs.declared.halves.Encoding.{Encoding}
use Rattle.rrs_hart.specs.declared.halves.Encoding.TheVariants.{Short, Long}
use Rattle.rrs_hart.specs.Halves.{bits_of, fetched, NoInstruction}
use Rattle.rrs_hart.specs.Harts.{Hart, hart_with, has_system, IsOfProfile, word_fetched, fetched_in, HartStep, OfKit, OfHalves}
use Rattle.rrs_hart.proofs.OneLayer.{never_both, never_bits}
use Rattle.rrs_hart.proofs.HalvesSteps.{same_Ok}
use Rattle.rrs_hart.proofs.HartSteps.{next_stands, kits_illegal, HartStep-unique, HartStep-uncleared, AccessesOfHart-unique}
use Rattle.rrs_hart.proofs.Fetches.{fetched_by_words}
use Rattle.rrs_machine.specs.declared.csrs.CsrFile.{CsrFile}
use Rattle.rrs_machine.specs.declared.csrs.Inputs.{Inputs}
use Rattle.rrs_machine.specs.declared.traps.AccessKind.{AccessKind}
use Rattle.rrs_machine.specs.declared.traps.AccessKind.TheVariants.{Fetch, Load, Store}
use Rattle.rrs_machine.specs.declared.traps.Exception.{Exception}
use Rattle.rrs_machine.specs.declared.traps.Exception.TheVariants.{InstructionMisaligned, IllegalInstruction as IllegalWord}
use Rattle.rrs_machine.specs.declared.machine.MachineAnswer.{MachineAnswer}
use Rattle.rrs_machine.specs.declared.machine.MachineAnswer.TheVariants.{Retired, Raised, Interrupted}
use Rattle.rrs_machine.specs.Csrs.{mode_of, csr_value}
use Rattle.rrs_machine.specs.Traps.{IsKind, exception_of}
use Rattle.rrs_machine.specs.MachineSteps.{MachineState, MachineOutcome, machine, ends, raised, raises, interrupted, gone_on, file_updated, csr_outcome, is_permitted, permitted_outcome, system_outcome, hart_in, with_hart, layers_of, fetched_at, is_own, IsOwn, IsNoSystem, may_lie, retired, InstructionStep, Retires, Strays, Faults, Executes, MachineStep, Interrupts, Proceeds, AccessesOfMachineStep, OfInterrupt, OfInstruction}

-- ---- to the hart an instruction of machine mode is illegal

own_system : (p : HartProfile) (row : SystemRow) → is_own row ≡ true → has_system p row ≡ true → ⊥
own_system p FenceI own has = false≢true own
own_system p _ own has = false≢true has

no_layer : (p : HartProfile) (w : ℕ) (row : SystemRow) (f : IType) → IsOwn (Long w) row f → (i : LayerInstruction) → ¬ IsOfProfile p w i
no_layer p w row f (outside, is, own) (System i) has =
    let same = system-unique w i.row row i.fields f has.1 is in
    own_system p row own (subst (λ x. has_system p x ≡ true) same.0 has.0)
no_layer p w row f (outside, is, own) (Atomic i) has = never_both w i.row row i.fields f has.1 is
no_layer p w row f (outside, is, own) (Bits i) has = never_bits w i.row row i.fields f has.1 is

refused_by : (b : Bool) (p : HartProfile) (s : State) (r : Option ℕ) (w : ℕ) → p.compressed ≡ b → fetched_in p s.bytes s.pc ≡ Ok (Long w)
    → IsIllegal w → ((i : LayerInstruction) → ¬ IsOfProfile p w i)
    → HartStep p (hart_with s r) (hart_with (cleared s) r) (Err (IllegalInstruction s.pc w))
refused_by true p s r w halves is outside none =
    let there : fetched s.bytes s.pc ≡ Ok (Long w) =
    subst (λ b. (if b then fetched s.bytes s.pc else word_fetched s.bytes s.pc) ≡ Ok (Long w)) halves is in
    OfHalves halves (NoInstruction (Long w) there (record { no_row = outside; no_layer = none }) refl)
refused_by false p s r w words is outside none =
    let there = fetched_by_words p s.bytes s.pc (Long w) words is in
    OfKit (kits_illegal p s w words (next_stands s w there.0 there.1) outside none) (Illegal w there.0 there.1 outside refl refl) refl

pub refused : (s : MachineState) (x : Encoding) (row : SystemRow) (f : IType) → fetched_at s ≡ Ok x → IsOwn x row f
    → HartStep (layers_of s) (hart_in s) (hart_with (cleared s.hart) s.csrs.reservation) (Err (IllegalInstruction s.hart.pc (bits_of x)))
refused s (Short h) row f there own = absurd own
refused s (Long w) row f there own =
    refused_by (layers_of s).compressed (layers_of s) s.hart s.csrs.reservation w refl there own.0 (no_layer (layers_of s) w row f own)

-- so a step of the hart that is Ok is none
not_both : (s : MachineState) (u u' : Hart) (e : InstructionException) → HartStep (layers_of s) (hart_in s) u (Ok tt)
    → HartStep (layers_of s) (hart_in s) u' (Err e) → ⊥
not_both s u u' e step step' =
    let same : Ok tt ≡ Err e = (HartStep-unique (layers_of s) (hart_in s) u u' (Ok tt) (Err e) step step').1 in
    cc

pub ok_no_system : (s : MachineState) (u : Hart) → HartStep (layers_of s) (hart_in s) u (Ok tt) → IsNoSystem s
ok_no_system s u step = λ x row f there own. not_both s u _ _ step (refused s x row f there own)

-- ---- one exception, and one instruction

kind-unique : (p : HartProfile) (x : Result Encoding InstructionException) (k k' : AccessKind) → IsKind p x k → IsKind p x k' → k ≡ k'
kind-unique p (Err e) k k' is is' = is ∙ sym is'
kind-unique p (Ok x) Fetch k' is is' = absurd is
kind-unique p (Ok x) Load Fetch is is' = absurd is'
kind-unique p (Ok x) Load Load is is' = refl
kind-unique p (Ok x) Load Store is is' = absurd (is is')
kind-unique p (Ok x) Store Fetch is is' = absurd is'
kind-unique p (Ok x) Store Load is is' = absurd (is' is)
kind-unique p (Ok x) Store Store is is' = refl

pub own-unique : (x : Encoding) (row row' : SystemRow) (f f' : IType) → IsOwn x row f → IsOwn x row' f' → (row ≡ row') × (f ≡ f')
own-unique (Short h) row row' f f' own own' = absurd own
own-unique (Long w) row row' f f' own own' = system-unique w row row' f f' own.1 own'.1

-- ---- one step

lies : (b : Bool) → b ≡ true → b ≡ false → ⊥
lies b may not = false≢true (sym not ∙ may)

pub InstructionStep-unique : (i : Inputs) (s t t' : MachineState) (a a' : MachineAnswer)
    → InstructionStep i s t a → InstructionStep i s t' a' → (t ≡ t') × (a ≡ a')
InstructionStep-unique i s t t' a a' (Retires u step lie after is) (Retires u' step' lie' after' is') =
    let same = HartStep-unique (layers_of s) (hart_in s) u u' (Ok tt) (Ok tt) step step' in
    (after ∙ ap (λ h. retired (with_hart h s)) same.0 ∙ sym after', is ∙ sym is')
InstructionStep-unique i s t t' a a' (Retires u step lie after is) (Strays u' step' odd' after' is') =
    let same = HartStep-unique (layers_of s) (hart_in s) u u' (Ok tt) (Ok tt) step step' in
    absurd (lies _ (subst (λ (h : Hart). may_lie (layers_of s) h.state.pc ≡ true) same.0 lie) odd')
InstructionStep-unique i s t t' a a' (Retires u step lie after is) (Faults u' e' k' step' none' kind' after' is') =
    absurd (not_both s u u' e' step step')
InstructionStep-unique i s t t' a a' (Retires u step lie after is) (Executes x' row' f' there' own' leaves') =
    absurd (ok_no_system s u step x' row' f' there' own')
InstructionStep-unique i s t t' a a' (Strays u step odd after is) (Retires u' step' lie' after' is') =
    let same = HartStep-unique (layers_of s) (hart_in s) u' u (Ok tt) (Ok tt) step' step in
    absurd (lies _ (subst (λ (h : Hart). may_lie (layers_of s) h.state.pc ≡ true) same.0 lie') odd)
InstructionStep-unique i s t t' a a' (Strays u step odd after is) (Strays u' step' odd' after' is') =
    let same = HartStep-unique (layers_of s) (hart_in s) u u' (Ok tt) (Ok tt) step step' in
    (after ∙ ap (λ (h : Hart). raised (InstructionMisaligned h.state.pc) s) same.0 ∙ sym after', is ∙ ap (λ (h : Hart). Raised (InstructionMisaligned h.state.pc)) same.0 ∙ sym is')
InstructionStep-unique i s t t' a a' (Strays u step odd after is) (Faults u' e' k' step' none' kind' after' is') =
    absurd (not_both s u u' e' step step')
InstructionStep-unique i s t t' a a' (Strays u step odd after is) (Executes x' row' f' there' own' leaves') =
    absurd (ok_no_system s u step x' row' f' there' own')
InstructionStep-unique i s t t' a a' (Faults u e k step none kind after is) (Retires u' step' lie' after' is') =
    absurd (not_both s u' u e step' step)
InstructionStep-unique i s t t' a a' (Faults u e k step none kind after is) (Strays u' step' odd' after' is') =
    absurd (not_both s u' u e step' step)
InstructionStep-unique i s t t' a a' (Faults u e k step none kind after is) (Faults u' e' k' step' none' kind' after' is') =
    let both = HartStep-unique (layers_of s) (hart_in s) u u' (Err e) (Err e') step step' in
    let answers : Err e ≡ Err e' = both.1 in
    let same : e ≡ e' = cc in
    let kinds = kind-unique (layers_of s) (fetched_at s) k k' kind kind' in (
      after ∙ (λ n. raised (exception_of (mode_of s.csrs) (kinds n) (same n)) (with_hart (both.0 n) s)) ∙ sym after',
      is ∙ (λ n. Raised (exception_of (mode_of s.csrs) (kinds n) (same n))) ∙ sym is',
    )
InstructionStep-unique i s t t' a a' (Faults u e k step none kind after is) (Executes x' row' f' there' own' leaves') =
    absurd (none x' row' f' there' own')
InstructionStep-unique i s t t' a a' (Executes x row f there own leaves) (Retires u' step' lie' after' is') =
    absurd (ok_no_system s u' step' x row f there own)
InstructionStep-unique i s t t' a a' (Executes x row f there own leaves) (Strays u' step' odd' after' is') =
    absurd (ok_no_system s u' step' x row f there own)
InstructionStep-unique i s t t' a a' (Executes x row f there own leaves) (Faults u' e' k' step' none' kind' after' is') =
    absurd (none' x row f there own)
InstructionStep-unique i s t t' a a' (Executes x row f there own leaves) (Executes x' row' f' there' own' leaves') =
    let one = same_Ok x' x (fetched_at s) there' there in
    let same = own-unique x row row' f f' own (subst (λ y. IsOwn y row' f') one own') in
    let outcomes = leaves ∙ (λ k. system_outcome (same.0 k) (same.1 k) (bits_of (sym one k)) i s) ∙ sym leaves' in
    (ap (λ (o : MachineOutcome). o.after) outcomes, ap (λ (o : MachineOutcome). o.answer) outcomes)

pub MachineStep-unique : (i : Inputs) (s t t' : MachineState) (a a' : MachineAnswer)
    → MachineStep i s t a → MachineStep i s t' a' → (t ≡ t') × (a ≡ a')
MachineStep-unique i s t t' a a' (Interrupts x due after is) (Interrupts x' due' after' is') =
    let same = same_Some _ _ (sym due ∙ due') in
    (after ∙ ap (λ y. interrupted y s) same ∙ sym after', is ∙ ap Interrupted same ∙ sym is')
MachineStep-unique i s t t' a a' (Interrupts x due after is) (Proceeds none' step') =
    absurd (none-some x (sym none' ∙ due))
MachineStep-unique i s t t' a a' (Proceeds none step) (Interrupts x' due' after' is') =
    absurd (none-some x' (sym none ∙ due'))
MachineStep-unique i s t t' a a' (Proceeds none step) (Proceeds none' step') =
    InstructionStep-unique i s t t' a a' step step'

pub AccessesOfMachineStep-unique : (i : Inputs) (s : MachineState) (xs ys : List Access)
    → AccessesOfMachineStep i s xs → AccessesOfMachineStep i s ys → xs ≡ ys
AccessesOfMachineStep-unique i s xs ys (OfInterrupt x due are) (OfInterrupt x' due' are') = are ∙ sym are'
AccessesOfMachineStep-unique i s xs ys (OfInterrupt x due are) (OfInstruction none' of') =
    absurd (none-some x (sym none' ∙ due))
AccessesOfMachineStep-unique i s xs ys (OfInstruction none of) (OfInterrupt x' due' are') =
    absurd (none-some x' (sym none ∙ due'))
AccessesOfMachineStep-unique i s xs ys (OfInstruction none of) (OfInstruction none' of') =
    AccessesOfHart-unique (layers_of s) (hart_in s) xs ys of of'

-- ---- from a state that forgot which register was written last

csr_cleared : (row : SystemRow) (f : IType) (w : ℕ) (o : Option Csr) (i : Inputs) (s : State) (c : CsrFile)
    → csr_outcome row f w o i (machine (cleared s) c) ≡ csr_outcome row f w o i (machine s c)
csr_cleared row f w None i s c = refl
csr_cleared row f w (Some csr) i s c =
    let operand = ap (λ x. if has_immediate row then f.rs1 else x) (same_reg s (cleared s) f.rs1 refl) in
    λ k. if writes_csr row f && is_read_only (csr_number f)
    then raises (IllegalWord w) (machine s c)
    else ends (machine (gone_on (put (cleared s) f.rd (pos (csr_value csr c i)))) (file_updated row f csr (csr_value csr c i) (operand k) c)) Retired

permitted_cleared : (row : SystemRow) (f : IType) (w : ℕ) (i : Inputs) (s : State) (c : CsrFile)
    → permitted_outcome row f w i (machine (cleared s) c) ≡ permitted_outcome row f w i (machine s c)
permitted_cleared Mret f w i s c = refl
permitted_cleared Wfi f w i s c = refl
permitted_cleared FenceI f w i s c = csr_cleared FenceI f w _ i s c
permitted_cleared SystemRow.Csrrw f w i s c = csr_cleared SystemRow.Csrrw f w _ i s c
permitted_cleared SystemRow.Csrrs f w i s c = csr_cleared SystemRow.Csrrs f w _ i s c
permitted_cleared SystemRow.Csrrc f w i s c = csr_cleared SystemRow.Csrrc f w _ i s c
permitted_cleared SystemRow.Csrrwi f w i s c = csr_cleared SystemRow.Csrrwi f w _ i s c
permitted_cleared SystemRow.Csrrsi f w i s c = csr_cleared SystemRow.Csrrsi f w _ i s c
permitted_cleared SystemRow.Csrrci f w i s c = csr_cleared SystemRow.Csrrci f w _ i s c

pub system_cleared : (row : SystemRow) (f : IType) (w : ℕ) (i : Inputs) (s : State) (c : CsrFile)
    → system_outcome row f w i (machine (cleared s) c) ≡ system_outcome row f w i (machine s c)
system_cleared row f w i s c =
    λ k. if is_permitted row (mode_of c) c then permitted_cleared row f w i s c k else raises (IllegalWord w) (machine s c)

-- what was raised of a state is raised of one that has forgotten the register that was written last
pub raised-cleared : (x : Exception) (h h' : State) (csrs : CsrFile) → cleared h ≡ cleared h' → raised x (machine h csrs) ≡ raised x (machine h' csrs)
raised-cleared x h h' csrs same = ap (λ y. raised x (machine y csrs)) same

pub InstructionStep-uncleared : (i : Inputs) (s : State) (c : CsrFile) (t : MachineState) (a : MachineAnswer)
    → InstructionStep i (machine (cleared s) c) t a → InstructionStep i (machine s c) t a
InstructionStep-uncleared i s c t a (Retires u step lie after is) =
    Retires u (HartStep-uncleared c.profile.hart s c.reservation u (Ok tt) step) lie after is
InstructionStep-uncleared i s c t a (Strays u step odd after is) =
    Strays u (HartStep-uncleared c.profile.hart s c.reservation u (Ok tt) step) odd
    (after ∙ raised-cleared (InstructionMisaligned u.state.pc) (cleared s) s c refl) is
InstructionStep-uncleared i s c t a (Faults u e k step none kind after is) =
    Faults u e k (HartStep-uncleared c.profile.hart s c.reservation u (Err e) step) none kind after is
InstructionStep-uncleared i s c t a (Executes x row f there own leaves) =
    Executes x row f there own (leaves ∙ system_cleared row f (bits_of x) i s c)
