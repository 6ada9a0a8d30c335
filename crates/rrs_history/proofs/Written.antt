-- A step writes one register at the most: the one that bits 11 to 7 of its word name.
use Rattle.std.proofs.Common.{◌≡◌, ℕ, zero, suc, ◌+◌, ◌*◌, ◌/◌, ◌%◌, ◌^◌, ◌==◌, ◌<◌, ℤ, pos, Bool, true, false, if◌then◌else◌, Option, Some, None, Ok, IfSome, IfNone, List, drop, slice_index, refl, sym, subst, ap, ◌∙◌, arith}
use Rattle.std.proofs.lemmas.Option.{same_Some}
use Rattle.rrs_lib.specs.Encodings.{Fields, R, I, IShamt, S, B, U, J, IsInRange, encode, immediate_bits}
use Rattle.rrs_lib.specs.Words.{floor_mod}
use Rattle.rrs_lib.specs.Table.{Row, table, Action, OnRegisters, OnImmediate, OnShamt, LoadUpper, AddUpperToPc, BranchIf, BranchUnless, Load, Store, JumpAndLink, JumpAndLinkRegister, NoEffect, CallEnvironment, Break}
use Rattle.rrs_lib.specs.Bytes.{little_endian, all_writable, store}
use Rattle.rrs_lib.specs.Machine.{State, put, Answer, Outcome, outcome, result_outcome, branch_outcome, jump_outcome, read_outcome, load_outcome, store_outcome, outcome_by, execute}
use Rattle.rrs_lib.specs.Steps.{Step, StepAnswer, Misaligned, Unmapped, Illegal, Legal, LastIsRegister, advanced, cleared}
use Rattle.rrs_lib.proofs.Keeping.{Step-last}
use Rattle.rrs_lib.proofs.Rows.{small_opcode}
use Rattle.rrs_history.specs.Changes.{number_in, value_in}
use Rattle.rrs_history.proofs.Undoing.{dropped}

-- none was written, or this one
abbrev pub IsOrNone : ℕ → Option ℕ → Type 0
IsOrNone rd None = Unit {0}
IsOrNone rd (Some r) = r ≡ rd

record Writes (rd : ℕ) (o : Outcome) : Type 0 where
  last : IsOrNone rd o.after.last

abbrev WritesIfAny : ℕ → Option Outcome → Type 0
WritesIfAny rd None = Unit {0}
WritesIfAny rd (Some o) = Writes rd o

put_writes : (rd : ℕ) (z : ℤ) (s : State) → IsOrNone rd s.last → IsOrNone rd (put s rd z).last
put_writes zero z s before = before
put_writes (suc k) z s before = refl

stays : (rd : ℕ) (s : State) (a : Answer) → IsOrNone rd s.last → Writes rd (outcome s a)
stays rd s a before = record { last = before }

result_writes : (rd : ℕ) (z : ℤ) (s : State) → IsOrNone rd s.last → Writes rd (result_outcome rd z s)
result_writes rd z s before = record { last = put_writes rd z s before }

choice_writes : (rd : ℕ) (b : Bool) (x y : Outcome) → Writes rd x → Writes rd y
    → Writes rd (if b then x else y)
choice_writes rd true x y p q = p
choice_writes rd false x y p q = q

branch_writes : (rd : ℕ) (taken : Bool) (imm : ℤ) (s : State) → IsOrNone rd s.last
    → Writes rd (branch_outcome taken imm s)
branch_writes rd true imm s before = record { last = before }
branch_writes rd false imm s before = record { last = before }

jump_writes : (rd target : ℕ) (s : State) → IsOrNone rd s.last → Writes rd (jump_outcome rd target s)
jump_writes rd target s before = record { last = put_writes rd (pos (s.pc + 4)) s before }

read_writes : (extended : ℕ → ℤ) (rd address : ℕ) (s : State) (value : Option ℕ) → IsOrNone rd s.last
    → Writes rd (read_outcome extended rd address s value)
read_writes extended rd address s None before = record { last = before }
read_writes extended rd address s (Some value) before = result_writes rd (extended value) s before

load_writes : (n : ℕ) (extended : ℕ → ℤ) (rd address : ℕ) (s : State) → IsOrNone rd s.last
    → Writes rd (load_outcome n extended rd address s)
load_writes n extended rd address s before =
    choice_writes rd (address % n == 0) _ _
    (read_writes extended rd address s (little_endian s.bytes address n) before) (stays rd s _ before)

store_writes : (rd n value address : ℕ) (s : State) → IsOrNone rd s.last → Writes rd (store_outcome n value address s)
store_writes rd n value address s before =
    choice_writes rd (address % n == 0) _ _
    (choice_writes rd (all_writable s.writable address n) _ _
    (stays rd (record s { bytes = store s.bytes address n value }) _ before) (stays rd s _ before))
    (stays rd s _ before)

-- the register that fields name to be written, where there is one
abbrev written : Fields → ℕ
written (R f) = f.rd
written (I f) = f.rd
written (IShamt f) = f.rd
written (U f) = f.rd
written (J f) = f.rd
written _ = 0

outcome_writes : (action : Action) (f : Fields) (s : State) → IsOrNone (written f) s.last
    → WritesIfAny (written f) (outcome_by action f s)
outcome_writes (OnRegisters op) (R f) s before = result_writes f.rd _ s before
outcome_writes (OnImmediate op) (I f) s before = result_writes f.rd _ s before
outcome_writes (OnShamt op) (IShamt f) s before = result_writes f.rd _ s before
outcome_writes LoadUpper (U f) s before = result_writes f.rd _ s before
outcome_writes AddUpperToPc (U f) s before = result_writes f.rd _ s before
outcome_writes (BranchIf test) (B f) s before = branch_writes 0 _ f.imm s before
outcome_writes (BranchUnless test) (B f) s before = branch_writes 0 _ f.imm s before
outcome_writes (Load n extended) (I f) s before = load_writes n extended f.rd _ s before
outcome_writes (Store n) (S f) s before = store_writes 0 n _ _ s before
outcome_writes JumpAndLink (J f) s before = jump_writes f.rd _ s before
outcome_writes JumpAndLinkRegister (I f) s before = jump_writes f.rd _ s before
outcome_writes NoEffect (I f) s before = stays f.rd s _ before
outcome_writes CallEnvironment (I f) s before = stays f.rd s _ before
outcome_writes Break (I f) s before = stays f.rd s _ before
outcome_writes _ _ s before = tt

executed_writes : (row : Row) (f : Fields) (s u : State) (a : Answer)
    → execute row f s ≡ Some (outcome u a) → IsOrNone (written f) s.last → IsOrNone (written f) u.last
executed_writes row f s u a executes before =
    let writes : Writes (written f) (outcome u a) =
    subst (WritesIfAny (written f)) executes (outcome_writes (table row).action f s before) in
    writes.last

advanced_writes : (rd : ℕ) (u : State) (a : Answer) → IsOrNone rd u.last → IsOrNone rd (advanced u a).last
advanced_writes rd u (Ok true) before = before
advanced_writes rd u _ before = before

-- the five bits from bit 7 of a word on
five_bits : (w op rd above : ℕ) → op < 128 → rd < 32 → w ≡ op + rd * 128 + above * 4096 → rd ≡ w / 2 ^ 7 % 2 ^ 5
five_bits w op rd above small low e = omega (arith, small, low, e)

-- the place of that register in a word
place : (w op : ℕ) (f : Fields) (last : Option ℕ) → op < 128 → IsInRange f → w ≡ encode op f
    → LastIsRegister last → IsOrNone (written f) last → IsOrNone (w / 2 ^ 7 % 2 ^ 5) last
place w op f None small r e within is = tt
place w op (R f) (Some x) small r e within is =
    is ∙ five_bits w op f.rd (f.funct3 + f.rs1 * 8 + f.rs2 * 256 + f.funct7 * 8192) small r.0 (omega (arith, e))
place w op (I f) (Some x) small r e within is =
    is ∙ five_bits w op f.rd (f.funct3 + f.rs1 * 8 + floor_mod f.imm (2 ^ 12) * 256) small r.0 (omega (arith, e))
place w op (IShamt f) (Some x) small r e within is =
    is ∙ five_bits w op f.rd (f.funct3 + f.rs1 * 8 + f.shamt * 256 + f.funct7 * 8192) small r.0 (omega (arith, e))
place w op (U f) (Some x) small r e within is =
    is ∙ five_bits w op f.rd (immediate_bits f.imm 12 20) small r.0 e
place w op (J f) (Some x) small r e within is =
    is ∙ five_bits w op f.rd (immediate_bits f.imm 12 8 + immediate_bits f.imm 11 1 * 256
    + immediate_bits f.imm 1 10 * 512 + immediate_bits f.imm 20 1 * 524288) small r.0 (omega (arith, e))
place w op (S f) (Some x) small r e within is = absurd (omega (arith, within.0, is))
place w op (B f) (Some x) small r e within is = absurd (omega (arith, within.0, is))

-- an exception before the instruction
cleared_writes : (w : ℕ) (s t : State) → t ≡ cleared s → IsOrNone (w / 2 ^ 7 % 2 ^ 5) t.last
cleared_writes w s t same = subst (λ (x : State). IsOrNone (w / 2 ^ 7 % 2 ^ 5) x.last) (sym same) tt

-- the register that a step writes, by its word
pub step_writes : (s t : State) (answer : StepAnswer) (w : ℕ) → little_endian s.bytes s.pc 4 ≡ Some w
    → Step s t answer → IsOrNone (w / 2 ^ 7 % 2 ^ 5) t.last
step_writes s t answer w word (Misaligned odd same answers) = cleared_writes w s t same
step_writes s t answer w word (Unmapped aligned read same answers) = cleared_writes w s t same
step_writes s t answer w word (Illegal v aligned read outside same answers) = cleared_writes w s t same
step_writes s t answer w word (Legal v row f u a aligned read is executes after answers) =
    let same : w ≡ v = same_Some _ _ (sym word ∙ read) in
    let step : Step s t answer = Legal v row f u a aligned read is executes after answers in
    let writes : IsOrNone (written f) t.last =
    subst (λ (x : State). IsOrNone (written f) x.last) (sym after)
    (advanced_writes (written f) u a (executed_writes row f (cleared s) u a executes tt)) in
    place w (table row).opcode f t.last (small_opcode row) is.in_range (same ∙ is.encoded)
    (Step-last s t answer step) writes

-- the entry of that register is as before
pub value_named : (xs : List ℕ) (last : Option ℕ) (v n : ℕ) → IsOrNone n last → v ≡ slice_index xs n
    → IfSome last (λ r. v ≡ slice_index xs r)
value_named xs None v n is e = tt
value_named xs (Some r) v n is e = e ∙ ap (slice_index xs) (sym is)

value_in_both : (xs ys : List ℕ) (last : Option ℕ) (v : ℕ) → drop 1 xs ≡ drop 1 ys → LastIsRegister last
    → IfSome last (λ r. v ≡ slice_index xs r) → IfSome last (λ r. v ≡ slice_index ys r)
value_in_both xs ys None v same within e = tt
value_in_both xs ys (Some zero) v same within e = absurd (omega (arith, within.0))
value_in_both xs ys (Some (suc r)) v same within e =
    e ∙ sym (dropped xs r) ∙ ap (λ zs. slice_index zs r) same ∙ dropped ys r

-- also in registers of which the first is another
pub value_moved : (xs ys : List ℕ) (a b : Option ℕ) (v : ℕ) → drop 1 xs ≡ drop 1 ys → a ≡ b
    → LastIsRegister a → IfSome a (λ r. v ≡ slice_index xs r) → IfSome b (λ r. v ≡ slice_index ys r)
value_moved xs ys a b v same is within e =
    subst (λ (last : Option ℕ). IfSome last (λ r. v ≡ slice_index ys r)) is (value_in_both xs ys a v same within e)

-- what is told of the register that was written
pub told_value : (xs : List ℕ) (last : Option ℕ) (before number value : ℕ) → LastIsRegister last
    → IfSome last (λ r. before ≡ slice_index xs r) → number ≡ number_in last
    → IfSome last (λ r. value ≡ before) → IfNone last (value ≡ 0) → value ≡ value_in xs number
told_value xs None before number value within entry is some none = none ∙ ap (value_in xs) (sym is)
told_value xs (Some zero) before number value within entry is some none = absurd (omega (arith, within.0))
told_value xs (Some (suc r)) before number value within entry is some none = some ∙ entry ∙ ap (value_in xs) (sym is)
