-- How the functions of halves.rt end.
use Rattle.std.proofs.Common.{◌≡◌, ℕ, ◌%◌, ◌==◌, ◌≤◌, ◌++◌, ℤ, Bool, true, false, not, if◌then◌else◌, Option, Some, None, Result, Ok, Err, IfOk, IfSome, refl, sym, subst, ap, ◌∙◌}
use Rattle.std.proofs.lemmas.Option.{same_Some}
use Rattle.rrs_memory.specs.Bytes.{little_endian, all_writable}
use Rattle.rrs_instruction.specs.Encodings.{Fields, R, I, IShamt, S, B, U, J}
use Rattle.rrs_instruction.specs.Table.{Row, table, Action, Load, Store, BranchIf, BranchUnless, JumpAndLink, JumpAndLinkRegister}
use Rattle.rrs_lib.specs.declared.instruction_executor.InstructionException.{InstructionException}
use Rattle.rrs_lib.specs.declared.instruction_executor.InstructionException.TheVariants.{AlignmentFault}
use Rattle.rrs_lib.specs.Machine.{State, reg, plus_immediate, Answer, Outcome, outcome, read_outcome, load_outcome, branch_outcome, granted_outcome, store_outcome, fault_outcome, outcome_by, Executes}
use Rattle.rrs_lib.specs.Steps.{StepAnswer, cleared, answered}
use Rattle.rrs_lib.specs.Accesses.{accesses_of_row}
use Rattle.rrs_words.specs.declared.csrs.HartProfile.{HartProfile}
use Rattle.rrs_hart.specs.Atomics.{AtomicOutcome, leaves}
use Rattle.rrs_hart.specs.Anywhere.{anywhere_by, accesses_anywhere, told_anywhere, answer_of, LeavesIf}
use Rattle.rrs_hart.specs.Profiles.{moved, moved_on}
use Rattle.rrs_hart.specs.declared.bytes.ByteAccess.{ByteAccess}
use Rattle.rrs_hart.specs.declared.halves.Encoding.{Encoding}
use Rattle.rrs_hart.specs.Halves.{fetched, StandsFor, IsNoRow, advanced_by, Sized, IsCarriedOut, IsNotCarriedOut, RowStep, AsBytes, AccessesOfRowStep, OfBytes, TellsRow, TellsHalves}
use Rattle.rrs_hart.proofs.HalvesSteps.{one_row_stands, same_Ok}

-- ---- an exception leaves the state as it was

abbrev Stays : State → Outcome → Type 0
Stays s o = (e : InstructionException) → o.answer ≡ Err e → o.after ≡ s

stays_choice : (b : Bool) (s : State) (x y : Outcome) → Stays s x → Stays s y → Stays s (if b then x else y)
stays_choice true s x y p q = p
stays_choice false s x y p q = q

stays_fault : (e : InstructionException) (s : State) → Stays s (fault_outcome e s)
stays_fault e s = λ e' h. refl

stays_read : (extended : ℕ → ℤ) (rd a : ℕ) (s : State) (value : Option ℕ) → Stays s (read_outcome extended rd a s value)
stays_read extended rd a s None = λ e h. refl
stays_read extended rd a s (Some v) = λ e h. absurd (cc)

stays_load : (n : ℕ) (extended : ℕ → ℤ) (rd a : ℕ) (s : State) → Stays s (load_outcome n extended rd a s)
stays_load n extended rd a s =
    stays_choice (a % n == 0) s _ _ (stays_read extended rd a s (little_endian s.bytes a n)) (stays_fault (AlignmentFault a) s)

stays_store : (n value a : ℕ) (s : State) → Stays s (store_outcome n value a s)
stays_store n value a s =
    stays_choice (a % n == 0) s _ _
    (stays_choice (all_writable s.writable a n) s (granted_outcome n value a s) (fault_outcome _ s) (λ e h. absurd (cc)) (stays_fault _ s))
    (stays_fault (AlignmentFault a) s)

stays_branch : (taken : Bool) (imm : ℤ) (s : State) → Stays s (branch_outcome taken imm s)
stays_branch true imm s = λ e h. absurd (cc)
stays_branch false imm s = λ e h. absurd (cc)

abbrev IfAny : (Outcome → Type 0) → Option Outcome → Type 0
IfAny P None = Unit {0}
IfAny P (Some o) = P o

stays_by : (action : Action) (f : Fields) (s : State) → IfAny (Stays s) (outcome_by action f s)
stays_by (Load n extended) (I f) s = stays_load n extended f.rd (plus_immediate (reg s f.rs1) f.imm) s
stays_by (Store n) (S f) s = stays_store n (reg s f.rs2) (plus_immediate (reg s f.rs1) f.imm) s
stays_by (BranchIf test) (B f) s = stays_branch (test (reg s f.rs1) (reg s f.rs2)) f.imm s
stays_by (BranchUnless test) (B f) s = stays_branch (not (test (reg s f.rs1) (reg s f.rs2))) f.imm s
stays_by JumpAndLink (J f) s = λ e h. absurd (cc)
stays_by JumpAndLinkRegister (I f) s = λ e h. absurd (cc)
stays_by (Action.OnRegisters op) (R f) s = λ e h. absurd (cc)
stays_by (Action.OnImmediate op) (I f) s = λ e h. absurd (cc)
stays_by (Action.OnShamt op) (IShamt f) s = λ e h. absurd (cc)
stays_by Action.LoadUpper (U f) s = λ e h. absurd (cc)
stays_by Action.AddUpperToPc (U f) s = λ e h. absurd (cc)
stays_by Action.NoEffect (I f) s = λ e h. absurd (cc)
stays_by Action.CallEnvironment (I f) s = stays_fault _ s
stays_by Action.Break (I f) s = stays_fault _ s
stays_by _ _ s = tt

fault_stays : (row : Row) (f : Fields) (s u : State) (e : InstructionException) → Executes row f s u (Err e) → u ≡ s
fault_stays row f s u e executes = subst (IfAny (Stays s)) executes (stays_by (table row).action f s) e refl

fault_by : (n : ℕ) (row : Row) (f : Fields) (s t u : State) (e : InstructionException) (a : Answer) → Executes row f s u a
    → t ≡ advanced_by n (table row).action f s u a → Err e ≡ answered a → (t ≡ s) × Executes row f s s (Err e)
fault_by n row f s t u e (Ok set) executes after answers = absurd (cc)
fault_by n row f s t u e (Err e') executes after answers =
    let same : e' ≡ e = cc in
    let stays = fault_stays row f s u e' executes in
    (after ∙ stays, subst (λ x. Executes row f s s (Err x)) same (subst (λ x. Executes row f s x (Err e')) stays executes))

pub fault_sized : (n : ℕ) (row : Row) (f : Fields) (s t : State) (e : InstructionException) → Sized n row f s t (Err e) → (t ≡ s) × Executes row f s s (Err e)
fault_sized n row f s t e sized = fault_by n row f s t sized.u e sized.a sized.executes sized.after sized.answers

-- ---- an access by bytes

pub carried_by_bytes : (p : HartProfile) (n : ℕ) (row : Row) (f : Fields) (s t u : State) (a : ℕ) (answer : StepAnswer) (x : Option Outcome)
    → Executes row f s s (Err (AlignmentFault a)) → p.misaligned ≡ true → anywhere_by (table row).action f s ≡ x
    → LeavesIf x s u (Some answer) → t ≡ moved n u answer
    → RowStep p n row f s t answer × AccessesOfRowStep p row f s (accesses_of_row row f s ++ accesses_anywhere (table row).action f s)
carried_by_bytes p n row f s t u a answer None does allowed is left goes = absurd left
carried_by_bytes p n row f s t u a answer (Some o) does allowed is left goes =
    let at : IsCarriedOut p row f s a o = record { allowed = allowed; refused = does; carried = is } in
    (AsBytes a o at (goes ∙ (λ k. moved n (left.0 k) (left.1 k))) left.1, OfBytes a o at refl)

-- ---- what is told

-- a row that is Ok was not carried out
pub whole_sized : (p : HartProfile) (n : ℕ) (row : Row) (f : Fields) (s t : State) → Sized n row f s t (Ok tt) → IsNotCarriedOut p row f s
whole_sized p n row f s t sized = λ a o is.
    let same : outcome sized.u sized.a ≡ outcome s (Err (AlignmentFault a)) = same_Some _ _ (sym sized.executes ∙ is.refused) in
    let answers : Ok tt ≡ answered (Err (AlignmentFault a)) = sized.answers ∙ ap (λ (o : Outcome). answered o.answer) same in
    cc (answers)

-- nor was one that raised another exception
pub other_sized : (p : HartProfile) (n : ℕ) (row : Row) (f : Fields) (s t : State) (e : InstructionException)
    → Sized n row f s t (Err e) → ((a : ℕ) → e ≡ AlignmentFault a → ⊥) → IsNotCarriedOut p row f s
other_sized p n row f s t e sized other = λ a o is.
    let same : outcome s (Err e) ≡ outcome s (Err (AlignmentFault a)) =
    same_Some _ _ (sym (fault_sized n row f s t e sized).1 ∙ is.refused) in
    let answers : Err e ≡ Err (AlignmentFault a) = ap (λ (o : Outcome). o.answer) same in
    other a (cc)

pub tells_sized : (p : HartProfile) (n : ℕ) (row : Row) (f : Fields) (s t : State) → Sized n row f s t (Ok tt) → TellsRow p row f s None
tells_sized p n row f s t sized = record {
  by_bytes = λ a o is. absurd (whole_sized p n row f s t sized a o is);
  of_others = λ none. refl;
}

pub tells_by_bytes : (p : HartProfile) (row : Row) (f : Fields) (s u : State) (a : ℕ) (x : Option Outcome)
    → Executes row f s s (Err (AlignmentFault a)) → p.misaligned ≡ true → anywhere_by (table row).action f s ≡ x
    → (told : Result ByteAccess InstructionException) (result : Result (Option ByteAccess) InstructionException)
    → LeavesIf x s u (Some (answer_of told)) → IfOk told (λ y. told_anywhere (table row).action f s ≡ Some y)
    → answer_of result ≡ answer_of told → IfOk result (λ v. IfOk told (λ y. v ≡ Some y)) → IfOk result (TellsRow p row f s)
tells_by_bytes p row f s u a x does allowed is told (Err e) left tells answers gives = tt
tells_by_bytes p row f s u a x does allowed is (Err e) (Ok v) left tells answers gives = absurd (cc (answers))
tells_by_bytes p row f s u a None does allowed is (Ok y) (Ok v) left tells answers gives = absurd left
tells_by_bytes p row f s u a (Some o) does allowed is (Ok y) (Ok v) left tells answers gives = record {
  by_bytes = λ a' o' other. (y, gives, tells);
  of_others = λ none. absurd (none a o (record { allowed = allowed; refused = does; carried = is }));
}

pub within_by_bytes : (told : Result ByteAccess InstructionException) (result : Result (Option ByteAccess) InstructionException)
    → IfOk told (λ y. y.size ≤ 4) → answer_of result ≡ answer_of told → IfOk result (λ v. IfOk told (λ y. v ≡ Some y))
    → IfOk result (λ v. IfSome v (λ y. y.size ≤ 4))
within_by_bytes told (Err e) within answers gives = tt
within_by_bytes (Err e) (Ok v) within answers gives = absurd (cc (answers))
within_by_bytes (Ok y) (Ok v) within answers gives = subst (λ z. IfSome z (λ y. y.size ≤ 4)) (sym gives) within

-- of a step
pub tells_row : (p : HartProfile) (s : State) (x : Encoding) (row : Row) (f : Fields) → fetched s.bytes s.pc ≡ Ok x → StandsFor x row f
    → (result : Result (Option ByteAccess) InstructionException) → IfOk result (TellsRow p row f (cleared s))
    → IfOk result (λ v. IfSome v (λ y. y.size ≤ 4)) → IfOk result (TellsHalves p s)
tells_row p s x row f is stands (Err e) tells within = tt
tells_row p s x row f is stands (Ok told) tells within = record {
  of_row = λ x' row' f' is' stands'.
      let same = same_Ok x' x _ is' is in
      let rows = one_row_stands x row row' f f' stands (subst (λ y. StandsFor y row' f') same stands') in
      subst (λ y. TellsRow p row' y (cleared s) told) rows.1 (subst (λ y. TellsRow p y f (cleared s) told) rows.0 tells);
  of_others = λ x' is' none. absurd (none row f (subst (λ y. StandsFor y row f) (same_Ok x x' _ is is') stands));
  within = within;
}

pub tells_outside : (p : HartProfile) (s : State) (x : Encoding) → fetched s.bytes s.pc ≡ Ok x → IsNoRow x → TellsHalves p s None
tells_outside p s x is none = record {
  of_row = λ x' row f is' stands. absurd (none row f (subst (λ y. StandsFor y row f) (same_Ok x' x _ is' is) stands));
  of_others = λ x' is' none'. refl;
  within = tt;
}

-- ---- an instruction of a layer

pub layer_moved_by : (n m : ℕ) (t u : State) (r : Option ℕ) (answer : StepAnswer) (o : AtomicOutcome) → n ≡ m → t ≡ moved n u answer
    → leaves u r answer ≡ o → leaves t r answer ≡ moved_on m o
layer_moved_by n m t u r answer o size goes left =
    (λ k. leaves ((goes ∙ (λ j. moved (size j) u answer)) k) r answer) ∙ ap (moved_on m) left
