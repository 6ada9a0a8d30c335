-- A step that is Ok and leaves a misaligned program counter is a jump or a branch, which changes no byte.
use Rattle.std.proofs.Common.{◌≡◌, ◌≢◌, ℕ, ◌+◌, ◌%◌, ◌==◌, List, drop, pos, Bool, true, false, not, if◌then◌else◌, Some, None, Ok, Err, refl, sym, subst, ap, ◌∙◌, arith}
use Rattle.std.proofs.lemmas.Option.{same_Some}
use Rattle.std.proofs.lemmas.Bool.{false≢true, not-false, eqb-true}
use Rattle.rrs_lib.specs.declared.instruction_executor.InstructionException.{InstructionException}
use Rattle.rrs_lib.specs.declared.instruction_executor.InstructionException.TheVariants.{AlignmentFault}
use Rattle.rrs_lib.specs.Words.{word}
use Rattle.rrs_lib.specs.Encodings.{Fields, S}
use Rattle.rrs_lib.specs.Table.{Row, table, Action, Store, Decodes}
use Rattle.rrs_lib.specs.Bytes.{little_endian}
use Rattle.rrs_lib.specs.Machine.{State, execute, Outcome, outcome, fault_outcome, granted_outcome, stored_by, outcome_by}
use Rattle.rrs_lib.specs.Steps.{Step, StepAnswer, StepStoresTo, Misaligned, Unmapped, Illegal, Legal, next_word, cleared, advanced, answered}
use Rattle.rrs_lib.proofs.Rows.{these, one_row_at_most}
use Rattle.rrs_lib.specs.SliceBytes.{bytes_from, lies_from}
use Rattle.rrs_lib.proofs.Keeping.{Step-little}
use Rattle.rrs_lib.proofs.Stepping.{Step-unique}
use Rattle.rrs_trace.specs.declared.retired.Retired.{Retired}
use Rattle.rrs_trace.specs.Retired.{Retires, is_fault}
use Rattle.rrs_c.specs.declared.hart.RrsHart.{RrsHart}
use Rattle.rrs_c.specs.Harts.{state_in_c}
use Rattle.rrs_c.specs.Records.{refused}
use Rattle.rrs_c.specs.Jumps.{StepAtJump, JumpsAside, GoesOn, jumps_aside}

-- where an outcome from s goes on, it goes on after the instruction
abbrev GoesBehind : State → Outcome → Type 0
GoesBehind s o = Ok tt ≡ answered o.answer → (advanced o.after o.answer).pc ≡ word (pos (s.pc + 4))

-- a store goes on after itself
choices : (aligned granted : Bool) (n value a : ℕ) (s : State) (e e' : InstructionException) (o : Outcome)
    → (if aligned then (if granted then granted_outcome n value a s else fault_outcome e s) else fault_outcome e' s) ≡ o → GoesBehind s o
choices true true n value a s e e' o is = subst (GoesBehind s) is (λ goes. refl)
choices true false n value a s e e' o is = subst (GoesBehind s) is (λ goes. absurd (cc))
choices false granted n value a s e e' o is = subst (GoesBehind s) is (λ goes. absurd (cc))

storing : (action : Action) (f : Fields) (s : State) (a : ℕ) (o : Outcome)
    → stored_by action f s a ≡ true → outcome_by action f (cleared s) ≡ Some o → GoesBehind (cleared s) o
storing (Store n) (S f) s a o stored is = choices _ _ n _ _ (cleared s) _ _ o (same_Some _ _ is)
storing _ _ s a o stored is = absurd (false≢true stored)

-- what a row at the program counter comes to
abbrev Comes : State → State → Row → Fields → Type 0
Comes s u row f = (o : Outcome) × (execute row f (cleared s) ≡ Some o) × (u ≡ advanced o.after o.answer) × (Ok tt ≡ answered o.answer)

comes : (s u : State) (w : ℕ) (row : Row) (f : Fields) → Step s u (Ok tt) → next_word s ≡ Some w → Decodes w row f
    → (s.pc % 4 ≡ 0) × Comes s u row f
comes s u w row f (Misaligned odd same is) has decodes = absurd (cc)
comes s u w row f (Unmapped aligned none same is) has decodes = absurd (cc)
comes s u w row f (Illegal w' aligned read outside same is) has decodes = absurd (cc)
comes s u w row f (Legal w' row' f' after a aligned read is executes goes answers) has decodes =
    let next : next_word s ≡ little_endian s.bytes s.pc 4 = rw aligned refl in
    let is' = subst (λ (x : ℕ). Decodes x row' f') (same_Some _ _ (sym read ∙ sym next ∙ has)) is in
    (aligned, these (Comes s u) w row f (record { row = row'; fields = f'; is = is'; holds = (outcome after a, executes, goes, answers) }) decodes)

-- no byte is stored
stores_none : (s u : State) → Step s u (Ok tt) → u.pc % 4 ≢ 0 → (a : ℕ) → ¬ StepStoresTo s a
stores_none s u step odd a stores =
    let all = comes s u stores.w stores.row stores.fields step stores.fetched stores.decoded in
    let o = all.1.0 in
    let behind = storing (table stores.row).action stores.fields s a o stores.stored all.1.1 all.1.3 in
    let aligned = all.0 in
    let even : word (pos (s.pc + 4)) % 4 ≡ 0 = omega (arith, aligned) in
    odd (ap (λ x. x.pc % 4) all.1.2 ∙ ap (λ n. n % 4) behind ∙ even)

-- so memory is as it was
memory_kept : (s u : State) → Step s u (Ok tt) → u.pc % 4 ≢ 0 → (u.bytes ≡ s.bytes) × (u.writable ≡ s.writable)
memory_kept s u step odd =
    let little = Step-little _ _ _ step in
    (λ i a. little.bytes_kept a (stores_none s u step odd a) i, little.writable_kept)

-- ---- by the test of the code

-- the answer and the program counter of a step that jumps aside, and of one that does not
aside_is : (a : StepAnswer) (pc : ℕ) → jumps_aside a pc ≡ true → (a ≡ Ok tt) × (pc % 4 ≢ 0)
aside_is (Ok u) pc is = (refl, λ even. absurd (false≢true (sym (ap (λ x. not (x == 0)) even) ∙ is)))
aside_is (Err e) pc is = absurd (false≢true is)

on_is : (a : StepAnswer) (pc : ℕ) → jumps_aside a pc ≡ false → a ≡ Ok tt → pc % 4 ≡ 0
on_is (Ok u) pc is ok = eqb-true _ _ (not-false _ is)
on_is (Err e) pc is ok = absurd (cc)

pub steps_aside : (s u t : State) (a a' : StepAnswer) → Step s u a → jumps_aside a u.pc ≡ true → t ≡ cleared s → a' ≡ Err (AlignmentFault u.pc) → StepAtJump s t a'
steps_aside s u t a a' step is same told =
    let parts = aside_is a u.pc is in
    JumpsAside u (subst (Step s u) parts.0 step) parts.1 same told

pub steps_on : (s t : State) (a : StepAnswer) → Step s t a → jumps_aside a t.pc ≡ false → StepAtJump s t a
steps_on s t a step is = GoesOn step (on_is a t.pc is)

-- the hart and the words of C as before, with no register as the one written last
pub restored : (h : RrsHart) (base base' : ℕ) (words words' words'' : List ℕ) (u : State) (a : StepAnswer)
    → Step (state_in_c h base words) u a → jumps_aside a u.pc ≡ true
    → u.bytes ≡ bytes_from base' words' → u.writable ≡ lies_from base' words' → base' ≡ base → words' ≡ words''
    → state_in_c (record { x = h.x; pc = h.pc; last = 0 }) base words'' ≡ cleared (state_in_c h base words)
restored h base base' words words' words'' u a step is bytes writable same_base same_words =
    let parts = aside_is a u.pc is in
    let kept = memory_kept _ u (subst (Step _ u) parts.0 step) parts.1 in
    let b : bytes_from base words'' ≡ bytes_from base words = (λ i. bytes_from (sym same_base i) (sym same_words i)) ∙ sym bytes ∙ kept.0 in
    let w : lies_from base words'' ≡ lies_from base words = (λ i. lies_from (sym same_base i) (sym same_words i)) ∙ sym writable ∙ kept.1 in
    λ i. record { registers = drop 1 h.x; pc = h.pc; last = None; bytes = b i; writable = w i }

-- a state has one such step
pub StepAtJump-unique : (s t t' : State) (a a' : StepAnswer) → StepAtJump s t a → StepAtJump s t' a' → (t' ≡ t) × (a' ≡ a)
StepAtJump-unique s t t' a a' (JumpsAside u step odd same told) (JumpsAside u' step' odd' same' told') =
    let is = Step-unique one_row_at_most s u' u _ _ step' step in
    (same' ∙ sym same, told' ∙ ap (λ x. Err (AlignmentFault x.pc)) (is.0) ∙ sym told)
StepAtJump-unique s t t' a a' (JumpsAside u step odd same told) (GoesOn step' even) =
    let is = Step-unique one_row_at_most s t' u _ _ step' step in
    absurd (odd (ap (λ x. x.pc % 4) (sym is.0) ∙ even is.1))
StepAtJump-unique s t t' a a' (GoesOn step even) (JumpsAside u' step' odd' same' told') =
    let is = Step-unique one_row_at_most s u' t _ _ step' step in
    absurd (odd' (ap (λ x. x.pc % 4) is.0 ∙ even (sym is.1)))
StepAtJump-unique s t t' a a' (GoesOn step even) (GoesOn step' even') = Step-unique one_row_at_most s t' t _ _ step' step

-- what it retires
pub retires_aside : (order : ℕ) (s u t : State) (a a' : StepAnswer) (e : InstructionException) (r : Retired)
    → Retires order s u a r → t ≡ cleared s → a' ≡ Err e → Retires order s t a' (refused r)
retires_aside order s u t a a' e r seen same told = record {
  order_is = seen.order_is;
  insn_is = seen.insn_is;
  trap_is = sym (ap is_fault told);
  pc_before = seen.pc_before;
  pc_after = seen.pc_before ∙ sym (ap (λ x. x.pc) same);
  sources = seen.sources;
  first_value = seen.first_value;
  second_value = seen.second_value;
  written = ap (λ x. x.last) same;
  written_value = refl;
  access = seen.access;
}
