-- A step that raises an exception leaves the state as it was, but for the register that was written last.
use Rattle.std.proofs.Common.{◌≡◌, ℕ, ◌%◌, ◌==◌, ℤ, if◌then◌else◌, Bool, true, false, Option, Some, None, Ok, Err, OnErr, refl, sym, subst, ap, ◌∙◌}
use Rattle.std.proofs.lemmas.Option.{none-some, same_Some}
use Rattle.rrs_memory.specs.Bytes.{little_endian, all_writable}
use Rattle.rrs_instruction.specs.declared.instruction_formats.RType.{RType}
use Rattle.rrs_instruction.specs.Encodings.{Fields, I, S}
use Rattle.rrs_instruction.specs.Table.{Row, Action, Load, Store, table}
use Rattle.rrs_lib.specs.declared.instruction_executor.InstructionException.{InstructionException}
use Rattle.rrs_lib.specs.Machine.{State, Outcome, reg, plus_immediate, read_outcome}
use Rattle.rrs_lib.specs.Steps.{StepAnswer, cleared, answered}
use Rattle.rrs_lib.proofs.Keeping.{Step-fault}
use Rattle.rrs_words.specs.declared.atomics.AtomicRow.{AtomicRow}
use Rattle.rrs_words.specs.declared.atomics.AtomicRow.TheVariants.{LrW, ScW}
use Rattle.rrs_words.specs.declared.layers.LayerInstruction.{LayerInstruction}
use Rattle.rrs_words.specs.declared.layers.LayerInstruction.TheVariants.{System, Atomic, Bits}
use Rattle.rrs_words.specs.declared.csrs.HartProfile.{HartProfile}
use Rattle.rrs_hart.specs.Anywhere.{anywhere_by}
use Rattle.rrs_hart.specs.Atomics.{AtomicOutcome, leaves, holds, reserved, conditional, swapped, aligned_outcome}
use Rattle.rrs_hart.specs.Harts.{Hart, layer_outcome, moved, moved_on, HartStep, OfKit, OfLayer, ByBytes, OfHalves}
use Rattle.rrs_hart.specs.Halves.{bytes_of, RowStep, AsRow, AsBytes, HalvesStep, NotFetched, NoInstruction, ARow, ALayer}
use Rattle.rrs_hart.proofs.HalvesEnds.{fault_sized}

abbrev KeepsState : State → State → StepAnswer → Type 0
KeepsState s t answer = (e : InstructionException) → answer ≡ Err e → t ≡ s

abbrev Keeps : State → AtomicOutcome → Type 0
Keeps s o = KeepsState s o.after o.answer

keeps_if : (s : State) (b : Bool) (x y : AtomicOutcome) → Keeps s x → Keeps s y → Keeps s (if b then x else y)
keeps_if s true x y p q = p
keeps_if s false x y p q = q

keeps_reserved : (rd a : ℕ) (s : State) (r o : Option ℕ) → Keeps s (reserved rd a s r o)
keeps_reserved rd a s r None = λ e is. refl
keeps_reserved rd a s r (Some value) = λ e is. absurd (cc (is))

keeps_conditional : (f : RType) (a : ℕ) (s : State) (r : Option ℕ) → Keeps s (conditional f a s r)
keeps_conditional f a s r =
    keeps_if s (holds r a) _ _ (keeps_if s (all_writable s.writable a 4) _ _ (λ e is. absurd (cc (is))) (λ e is. refl)) (λ e is. absurd (cc (is)))

keeps_swapped : (row : AtomicRow) (f : RType) (a : ℕ) (s : State) (r o : Option ℕ) → Keeps s (swapped row f a s r o)
keeps_swapped row f a s r None = λ e is. refl
keeps_swapped row f a s r (Some old) = keeps_if s (all_writable s.writable a 4) _ _ (λ e is. absurd (cc (is))) (λ e is. refl)

keeps_aligned : (row : AtomicRow) (f : RType) (a : ℕ) (s : State) (r : Option ℕ) → Keeps s (aligned_outcome row f a s r)
keeps_aligned LrW f a s r = keeps_reserved f.rd a s r (little_endian s.bytes a 4)
keeps_aligned ScW f a s r = keeps_conditional f a s r
keeps_aligned row f a s r = keeps_swapped row f a s r (little_endian s.bytes a 4)

keeps_layer : (i : LayerInstruction) (s : State) (r : Option ℕ) → Keeps s (layer_outcome i s r)
keeps_layer (System i) s r = λ e is. absurd (cc (is))
keeps_layer (Bits i) s r = λ e is. absurd (cc (is))
keeps_layer (Atomic i) s r =
    keeps_if s (reg s i.fields.rs1 % 4 == 0) _ _ (keeps_aligned i.row i.fields (reg s i.fields.rs1) s r) (λ e is. refl)

keeps_read : (extended : ℕ → ℤ) (rd a : ℕ) (s : State) (o : Option ℕ)
    → KeepsState s (read_outcome extended rd a s o).after (answered (read_outcome extended rd a s o).answer)
keeps_read extended rd a s None = λ e is. refl
keeps_read extended rd a s (Some value) = λ e is. absurd (cc (is))

keeps_either : (s : State) (b : Bool) (x y : Outcome) → KeepsState s x.after (answered x.answer) → KeepsState s y.after (answered y.answer)
    → KeepsState s (if b then x else y).after (answered (if b then x else y).answer)
keeps_either s true x y p q = p
keeps_either s false x y p q = q

keeps_anywhere : (action : Action) (f : Fields) (s : State) (o : Outcome) → anywhere_by action f s ≡ Some o
    → KeepsState s o.after (answered o.answer)
keeps_anywhere (Load n extended) (I f) s o is =
    subst (λ (x : Outcome). KeepsState s x.after (answered x.answer)) (same_Some _ _ is)
    (keeps_read extended f.rd (plus_immediate (reg s f.rs1) f.imm) s (little_endian s.bytes (plus_immediate (reg s f.rs1) f.imm) n))
keeps_anywhere (Store n) (S f) s o is =
    subst (λ (x : Outcome). KeepsState s x.after (answered x.answer)) (same_Some _ _ is)
    (keeps_either s (all_writable s.writable (plus_immediate (reg s f.rs1) f.imm) n) _ _ (λ e fault. absurd (cc (fault))) (λ e fault. refl))
keeps_anywhere _ _ s o is = absurd (none-some o is)

moved_fault : (n : ℕ) (s : State) (answer : StepAnswer) (e : InstructionException) → answer ≡ Err e → moved n s answer ≡ s
moved_fault n s answer e is = ap (moved n s) is

left_state : (n : ℕ) (s : State) (t : Hart) (e : InstructionException) (o : AtomicOutcome) → Keeps s o
    → leaves t.state t.reserved (Err e) ≡ moved_on n o → t.state ≡ s
left_state n s t e o keeps left =
    let fault : o.answer ≡ Err e = sym (ap (λ (x : AtomicOutcome). x.answer) left) in
    ap (λ (x : AtomicOutcome). x.after) left ∙ moved_fault n o.after o.answer e fault ∙ keeps e fault

row_state : (p : HartProfile) (n : ℕ) (row : Row) (f : Fields) (s t : State) (e : InstructionException) → RowStep p n row f s t (Err e) → t ≡ s
row_state p n row f s t e (AsRow none sized) = (fault_sized n row f s t e sized).0
row_state p n row f s t e (AsBytes a o is after answers) =
    after ∙ moved_fault n o.after (answered o.answer) e (sym answers)
    ∙ keeps_anywhere (table row).action f s o is.carried e (sym answers)

halves_state : (p : HartProfile) (s t : Hart) (e : InstructionException) → HalvesStep p s t (Err e) → t.state ≡ cleared s.state
halves_state p s t e (NotFetched fault is left) = ap (λ (x : AtomicOutcome). x.after) left
halves_state p s t e (NoInstruction x is illegal left) = ap (λ (x : AtomicOutcome). x.after) left
halves_state p s t e (ARow x row f is stands step kept) = row_state p (bytes_of x) row f (cleared s.state) t.state e step
halves_state p s t e (ALayer x i is none layers left) =
    left_state (bytes_of x) (cleared s.state) t e (layer_outcome i (cleared s.state) s.reserved) (keeps_layer i (cleared s.state) s.reserved) left

pub fault_keeps : (p : HartProfile) (s t : Hart) (e : InstructionException) → HartStep p s t (Err e) → t.state ≡ cleared s.state
fault_keeps p s t e (OfKit kits step kept) = Step-fault s.state t.state (Err e) step
fault_keeps p s t e (OfLayer w i at left) =
    left_state 4 (cleared s.state) t e (layer_outcome i (cleared s.state) s.reserved) (keeps_layer i (cleared s.state) s.reserved) left
fault_keeps p s t e (ByBytes w row f a o at left) =
    left_state 4 (cleared s.state) t e (leaves o.after s.reserved (answered o.answer))
    (keeps_anywhere (table row).action f (cleared s.state) o at.carried) left
fault_keeps p s t e (OfHalves halves step) = halves_state p s t e step

pub fault_keeps_bytes : (p : HartProfile) (s t : Hart) (e : InstructionException) → HartStep p s t (Err e) → t.state.bytes ≡ s.state.bytes
fault_keeps_bytes p s t e step = ap (λ (x : State). x.bytes) (fault_keeps p s t e step)

pub HartStep-fault : (p : HartProfile) (s t : Hart) (answer : StepAnswer) → HartStep p s t answer → OnErr answer (t.state ≡ cleared s.state)
HartStep-fault p s t (Ok x) step = tt
HartStep-fault p s t (Err e) step = fault_keeps p s t e step
