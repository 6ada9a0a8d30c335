-- The register that was written last by an instruction whose access was answered: one of 1 to 31, or none.
use Rattle.std.proofs.Common.{◌≡◌, ℕ, zero, suc, ◌+◌, ◌%◌, ◌==◌, ◌<◌, ℤ, pos, Bool, true, false, if◌then◌else◌, Option, Some, None, Ok, Err, sym, subst, ◌∙◌, arith}
use Rattle.rrs_lib.specs.declared.HartState.{HartState}
use Rattle.rrs_lib.specs.Encodings.{Fields, R, I, IShamt, S, B, U, J, IsInRange}
use Rattle.rrs_lib.specs.Table.{Row, table, format_of, Decodes, Action, OnRegisters, OnImmediate, OnShamt, LoadUpper, AddUpperToPc, BranchIf, BranchUnless, Load, Store, JumpAndLink, JumpAndLinkRegister, NoEffect, CallEnvironment, Break}
use Rattle.rrs_lib.specs.Bytes.{ByteMap, little_endian, all_writable, store}
use Rattle.rrs_lib.specs.Machine.{State, put, state_of, Answer, Outcome, outcome, result_outcome, branch_outcome, jump_outcome, read_outcome, load_outcome, store_outcome, outcome_by}
use Rattle.rrs_lib.specs.Steps.{StepAnswer, LastIsRegister, advanced}
use Rattle.rrs_instruction.proofs.Actions.{format_of_action, format_of_row}
use Rattle.rrs_trace.specs.Outside.{RequestAnswer, loaded, outcome_given, GoesTo, Performs}

-- the register that fields name to be written, where there is one
abbrev written : Fields → ℕ
written (R f) = f.rd
written (I f) = f.rd
written (IShamt f) = f.rd
written (U f) = f.rd
written (J f) = f.rd
written _ = 0

written_within : (f : Fields) → IsInRange f → written f < 32
written_within (S f) h = omega arith
written_within (B f) h = omega arith
written_within _ h = omega (arith, h.0)

put_last : (rd : ℕ) (z : ℤ) (s : State) → rd < 32 → LastIsRegister s.last → LastIsRegister (put s rd z).last
put_last zero z s within before = before
put_last (suc k) z s within before = (omega arith, omega arith)

-- the register that an outcome has as the last written one is so
record LastKept (o : Outcome) : Type 0 where
  last : LastIsRegister o.after.last

abbrev KeepsLast : Option Outcome → Type 0
KeepsLast None = ⊥
KeepsLast (Some o) = LastKept o

stays_last : (s : State) (a : Answer) → LastIsRegister s.last → LastKept (outcome s a)
stays_last s a before = record { last = before }

result_last : (rd : ℕ) (z : ℤ) (s : State) → rd < 32 → LastIsRegister s.last → LastKept (result_outcome rd z s)
result_last rd z s within before = record { last = put_last rd z s within before }

choice_last : (b : Bool) (x y : Outcome) → LastKept x → LastKept y → LastKept (if b then x else y)
choice_last true x y p q = p
choice_last false x y p q = q

branch_last : (taken : Bool) (imm : ℤ) (s : State) → LastIsRegister s.last → LastKept (branch_outcome taken imm s)
branch_last true imm s before = record { last = before }
branch_last false imm s before = record { last = before }

jump_last : (rd target : ℕ) (s : State) → rd < 32 → LastIsRegister s.last → LastKept (jump_outcome rd target s)
jump_last rd target s within before = record { last = put_last rd (pos (s.pc + 4)) s within before }

read_last : (extended : ℕ → ℤ) (rd address : ℕ) (s : State) (value : Option ℕ) → rd < 32 → LastIsRegister s.last
    → LastKept (read_outcome extended rd address s value)
read_last extended rd address s None within before = record { last = before }
read_last extended rd address s (Some value) within before = result_last rd (extended value) s within before

load_last : (n : ℕ) (extended : ℕ → ℤ) (rd address : ℕ) (s : State) → rd < 32 → LastIsRegister s.last
    → LastKept (load_outcome n extended rd address s)
load_last n extended rd address s within before =
    choice_last (address % n == 0) _ _
    (read_last extended rd address s (little_endian s.bytes address n) within before) (stays_last s _ before)

store_last : (n value address : ℕ) (s : State) → LastIsRegister s.last → LastKept (store_outcome n value address s)
store_last n value address s before =
    choice_last (address % n == 0) _ _
    (choice_last (all_writable s.writable address n) _ _
    (stays_last (record s { bytes = store s.bytes address n value }) _ before) (stays_last s _ before))
    (stays_last s _ before)

outcome_last : (action : Action) (f : Fields) (s : State) → format_of f ≡ format_of_action action → written f < 32
    → LastIsRegister s.last → KeepsLast (outcome_by action f s)
outcome_last (OnRegisters op) (R f) s e within before = result_last f.rd _ s within before
outcome_last (OnImmediate op) (I f) s e within before = result_last f.rd _ s within before
outcome_last (OnShamt op) (IShamt f) s e within before = result_last f.rd _ s within before
outcome_last LoadUpper (U f) s e within before = result_last f.rd _ s within before
outcome_last AddUpperToPc (U f) s e within before = result_last f.rd _ s within before
outcome_last (BranchIf test) (B f) s e within before = branch_last _ f.imm s before
outcome_last (BranchUnless test) (B f) s e within before = branch_last _ f.imm s before
outcome_last (Load n extended) (I f) s e within before = load_last n extended f.rd _ s within before
outcome_last (Store n) (S f) s e within before = store_last n _ _ s before
outcome_last JumpAndLink (J f) s e within before = jump_last f.rd _ s within before
outcome_last JumpAndLinkRegister (I f) s e within before = jump_last f.rd _ s within before
outcome_last NoEffect (I f) s e within before = stays_last s _ before
outcome_last CallEnvironment (I f) s e within before = stays_last s _ before
outcome_last Break (I f) s e within before = stays_last s _ before
outcome_last _ _ s e within before = absurd (cc)

loaded_last : (action : Action) (f : Fields) (v : ℕ) (s : State) → written f < 32 → LastIsRegister s.last
    → LastIsRegister (loaded action f v s).last
loaded_last (Load n extended) (I f) v s within before = put_last f.rd _ s within before
loaded_last _ _ v s within before = before

given_last : (action : Action) (f : Fields) (r : RequestAnswer) (given : Option ℕ) (s : State)
    → format_of f ≡ format_of_action action → written f < 32 → LastIsRegister s.last
    → KeepsLast (outcome_given action f r given s)
given_last action f (Err e) given s format within before = stays_last s _ before
given_last action f (Ok None) given s format within before = outcome_last action f s format within before
given_last action f (Ok (Some request)) None s format within before = stays_last s _ before
given_last action f (Ok (Some request)) (Some value) s format within before =
    stays_last (loaded action f value s) _ (loaded_last action f value s within before)

advanced_last : (u : State) (a : Answer) → LastIsRegister u.last → LastIsRegister (advanced u a).last
advanced_last u (Ok true) before = before
advanced_last u _ before = before

gone_last : (t : State) (answer : StepAnswer) (o : Option Outcome) → KeepsLast o → GoesTo t answer o
    → LastIsRegister t.last
gone_last t answer None kept goes = absurd kept
gone_last t answer (Some o) kept goes =
    subst (λ (x : State). LastIsRegister x.last) (sym goes.0) (advanced_last o.after o.answer kept.last)

pub performs_last : (row : Row) (f : Fields) (given : Option ℕ) (old new : HartState) (answer : StepAnswer) (w : ℕ)
    → Decodes w row f → old.last_register_write ≡ None → Performs row f given old new answer
    → LastIsRegister new.last_register_write
performs_last row f given old new answer w is none p =
    let bytes : ByteMap = λ a. None in
    let writable : ℕ → Bool = λ a. false in
    gone_last (state_of new bytes writable) answer _
    (given_last (table row).action f p.request given (state_of old bytes writable) (is.format ∙ format_of_row row)
    (written_within f is.in_range) (subst LastIsRegister (sym none) tt))
    (p.performs bytes writable)
