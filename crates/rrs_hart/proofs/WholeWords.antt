-- A word that lies at a multiple of 4 is fetched whole by half-words, and a row there does what it does on the kit's machine.
use Rattle.std.proofs.Common.{◌≡◌, ℕ, zero, suc, ◌+◌, ◌*◌, ◌%◌, ◌^◌, ◌<◌, ◌==◌, ℤ, pos, Bool, true, false, not, if◌then◌else◌, Option, Some, None, Ok, Err, refl, sym, subst, ap, ◌∙◌, arith}
use Rattle.std.proofs.lemmas.Bool.{eqb-true, eq-eqb}
use Rattle.std.proofs.lemmas.Option.{none-some, same_Some}
use Rattle.std.proofs.lemmas.List.{set-set}
use Rattle.rrs_memory.specs.Bytes.{ByteMap, little_endian, sum_if_both, at_place, all_writable}
use Rattle.rrs_instruction.specs.Words.{word}
use Rattle.rrs_instruction.specs.Encodings.{Fields, R, I, IShamt, S, B, U, J, IsInRange, encode}
use Rattle.rrs_instruction.specs.Table.{Row, table, Action, Load, Store, BranchIf, BranchUnless, JumpAndLink, JumpAndLinkRegister, Decodes}
use Rattle.rrs_instruction.specs.Results.{add}
use Rattle.rrs_instruction.proofs.Fields.{floor_mod-lt}
use Rattle.rrs_instruction.proofs.Places.{places-R, places-I, places-IShamt, places-S, places-B, places-U, places-J}
use Rattle.rrs_instruction.proofs.Rows.{small_opcode}
use Rattle.rrs_lib.specs.declared.instruction_executor.InstructionException.TheVariants.{AlignmentFault}
use Rattle.rrs_lib.specs.Machine.{State, reg, put, with_pc, plus_immediate, made_even, Answer, Outcome, outcome, outcome_by, branch_outcome, load_outcome, read_outcome, store_outcome, granted_outcome, fault_outcome, Executes}
use Rattle.rrs_lib.specs.Steps.{Step, StepAnswer, Misaligned, Unmapped, Illegal, Legal, cleared, advanced, answered}
use Rattle.rrs_lib.proofs.Keeping.{Executes-pc}
use Rattle.rrs_words.specs.declared.csrs.HartProfile.{HartProfile}
use Rattle.rrs_hart.specs.declared.halves.Encoding.TheVariants.{Short, Long}
use Rattle.rrs_hart.specs.Profiles.{hart_with}
use Rattle.rrs_hart.specs.Halves.{behind, joined, begun, fetched, relinked, advanced_by, IsNotCarriedOut, AsRow, HalvesStep, ARow}

-- ---- the low bits of a row's word are 11

each_low : (row : Row) → ((table row).opcode % 4 == 3) ≡ true
each_low Row.Add = refl
each_low _ = refl

low_of : (w op : ℕ) (f : Fields) → op < 128 → op % 4 ≡ 3 → IsInRange f → w ≡ encode op f → w % 4 ≡ 3
low_of w op (R f) small low r e = omega (arith, (places-R w op f small r e).0, low)
low_of w op (I f) small low r e = omega (arith, (places-I w op f small r e).0, low)
low_of w op (IShamt f) small low r e = omega (arith, (places-IShamt w op f small r e).0, low)
low_of w op (S f) small low r e = omega (arith, (places-S w op f small r e).0, low)
low_of w op (B f) small low r e = omega (arith, (places-B w op f small r e).0, low)
low_of w op (U f) small low r e = omega (arith, (places-U w op f small r e).0, low)
low_of w op (J f) small low r e = omega (arith, (places-J w op f small r e).0, low)

pub row_low : (w : ℕ) (row : Row) (f : Fields) → Decodes w row f → w % 4 ≡ 3
row_low w row f is = low_of w (table row).opcode f (small_opcode row) (eqb-true _ _ (each_low row)) is.in_range is.encoded

-- ---- the half-words of a word

record FourBytes (o0 o1 o2 o3 : Option ℕ) (w : ℕ) : Type 0 where
  b0 : ℕ
  b1 : ℕ
  b2 : ℕ
  b3 : ℕ
  is0 : o0 ≡ Some b0
  is1 : o1 ≡ Some b1
  is2 : o2 ≡ Some b2
  is3 : o3 ≡ Some b3
  sum : w ≡ 0 + b0 * 256 ^ 0 + b1 * 256 ^ 1 + b2 * 256 ^ 2 + b3 * 256 ^ 3

four_bytes : (o0 o1 o2 o3 : Option ℕ) (w : ℕ)
    → sum_if_both (sum_if_both (sum_if_both (sum_if_both (Some 0) (at_place 0 o0)) (at_place 1 o1)) (at_place 2 o2)) (at_place 3 o3) ≡ Some w
    → FourBytes o0 o1 o2 o3 w
four_bytes (Some b0) (Some b1) (Some b2) (Some b3) w is = record {
  b0 = b0;
  b1 = b1;
  b2 = b2;
  b3 = b3;
  is0 = refl;
  is1 = refl;
  is2 = refl;
  is3 = refl;
  sum = sym (same_Some _ _ is);
}
four_bytes None o1 o2 o3 w is = absurd (none-some w is)
four_bytes (Some b0) None o2 o3 w is = absurd (none-some w is)
four_bytes (Some b0) (Some b1) None o3 w is = absurd (none-some w is)
four_bytes (Some b0) (Some b1) (Some b2) None w is = absurd (none-some w is)

-- the word at a multiple of 4 is fetched
pub word_fetched : (bytes : ByteMap) (pc w : ℕ) → pc % 4 ≡ 0 → pc < 2 ^ 32 → little_endian bytes pc 4 ≡ Some w → w % 4 ≡ 3
    → fetched bytes pc ≡ Ok (Long w)
word_fetched bytes pc w aligned within read bits =
    let four = four_bytes (bytes (pc + 0)) (bytes (pc + 1)) (bytes (pc + 2)) (bytes (pc + 3)) w read in
    let low = 0 + four.b0 * 256 ^ 0 + four.b1 * 256 ^ 1 in
    let high = 0 + four.b2 * 256 ^ 0 + four.b3 * 256 ^ 1 in
    let next : behind 2 pc ≡ pc + 2 = omega (arith, aligned, within) in
    let two : pc + 2 + 0 ≡ pc + 2 = omega arith in
    let three : pc + 2 + 1 ≡ pc + 3 = omega arith in
    let third : bytes (pc + 2 + 0) ≡ Some four.b2 = ap bytes two ∙ four.is2 in
    let fourth : bytes (pc + 2 + 1) ≡ Some four.b3 = ap bytes three ∙ four.is3 in
    let first_half : little_endian bytes pc 2 ≡ Some low =
    (λ k. sum_if_both (sum_if_both (Some 0) (at_place 0 (four.is0 k))) (at_place 1 (four.is1 k))) in
    let second_half : little_endian bytes (pc + 2) 2 ≡ Some high =
    (λ k. sum_if_both (sum_if_both (Some 0) (at_place 0 (third k))) (at_place 1 (fourth k))) in
    let there : little_endian bytes (behind 2 pc) 2 ≡ Some high = ap (λ a. little_endian bytes a 2) next ∙ second_half in
    let even : (pc % 2 == 0) ≡ true = eq-eqb (pc % 2) 0 (omega (arith, aligned)) in
    let eleven : (low % 4 == 3) ≡ true = eq-eqb (low % 4) 3 (omega (arith, four.sum, bits)) in
    let whole : low + high * 2 ^ 16 ≡ w = omega (arith, four.sum) in
    ap (λ b. if b then begun bytes pc (little_endian bytes pc 2) else Err (AlignmentFault pc)) even
    ∙ ap (begun bytes pc) first_half
    ∙ ap (λ b. if b then joined (behind 2 pc) low (little_endian bytes (behind 2 pc) 2) else Ok (Short low)) eleven
    ∙ ap (joined (behind 2 pc) low) there
    ∙ ap (λ x. Ok (Long x)) whole

-- ---- the program counter and the link of a row of four bytes

put_again : (s : State) (rd target : ℕ) (z : ℤ) → put (with_pc (put s rd z) target) rd z ≡ with_pc (put s rd z) target
put_again s zero target z = refl
put_again s (suc r) target z =
    ap (λ xs. record s { registers = xs; pc = target; last = Some (suc r) }) (set-set s.registers r (word z) (word z))

linked_again : (action : Action) (f : Fields) (s u : State) → outcome_by action f s ≡ Some (outcome u (Ok true)) → relinked 4 action f s u ≡ u
linked_again JumpAndLink (J f) s u is =
    let same : with_pc (put s f.rd (pos (s.pc + 4))) (plus_immediate s.pc f.imm) ≡ u = ap (λ (o : Outcome). o.after) (same_Some _ _ is) in
    subst (λ x. put x f.rd (pos (s.pc + 4)) ≡ x) same (put_again s f.rd (plus_immediate s.pc f.imm) (pos (s.pc + 4)))
linked_again JumpAndLinkRegister (I f) s u is =
    let target = made_even (plus_immediate (reg s f.rs1) f.imm) in
    let same : with_pc (put s f.rd (pos (s.pc + 4))) target ≡ u = ap (λ (o : Outcome). o.after) (same_Some _ _ is) in
    subst (λ x. put x f.rd (pos (s.pc + 4)) ≡ x) same (put_again s f.rd target (pos (s.pc + 4)))
linked_again _ _ s u is = refl

pub advanced_by_four : (row : Row) (f : Fields) (s u : State) (a : Answer) → Executes row f s u a → advanced_by 4 (table row).action f s u a ≡ advanced u a
advanced_by_four row f s u (Ok true) executes = linked_again (table row).action f s u executes
advanced_by_four row f s u (Ok false) executes = ap (λ (x : ℕ). with_pc u (word (pos (x + 4)))) (sym (Executes-pc row f s u executes))
advanced_by_four row f s u (Err e) executes = refl

-- a row that the kit's machine executes
pub legal_halves : (p : HartProfile) (s t : State) (r : Option ℕ) (w : ℕ) (row : Row) (f : Fields) (u : State) (a : Answer) (answer : StepAnswer)
    → s.pc < 2 ^ 32 → s.pc % 4 ≡ 0 → little_endian s.bytes s.pc 4 ≡ Some w → Decodes w row f → Executes row f (cleared s) u a
    → t ≡ advanced u a → answer ≡ answered a → IsNotCarriedOut p row f (cleared s) → HalvesStep p (hart_with s r) (hart_with t r) answer
legal_halves p s t r w row f u a answer within even read decodes does after answers none =
    ARow (Long w) row f (word_fetched s.bytes s.pc w even within read (row_low w row f decodes)) decodes
    (AsRow none (record {
      u = u;
      a = a;
      executes = does;
      after = after ∙ sym (advanced_by_four row f (cleared s) u a does);
      answers = answers;
    })) refl

-- what the kit answers with Ok is not carried out by bytes
not_carried : (p : HartProfile) (row : Row) (f : Fields) (s u : State) (set : Bool) → Executes row f s u (Ok set) → IsNotCarriedOut p row f s
not_carried p row f s u set does = λ a o at.
    let same : Ok set ≡ Err (AlignmentFault a) = ap (λ (x : Outcome). x.answer) (same_Some _ _ (sym does ∙ at.refused)) in
    cc

-- where the kit's step is Ok, it is that of a hart with the compressed instructions
pub halves_ok : (p : HartProfile) (s t : State) (r : Option ℕ) → s.pc < 2 ^ 32 → Step s t (Ok tt) → HalvesStep p (hart_with s r) (hart_with t r) (Ok tt)
halves_ok p s t r within (Misaligned odd after is) = absurd (cc)
halves_ok p s t r within (Unmapped even none after is) = absurd (cc)
halves_ok p s t r within (Illegal w even read outside after is) = absurd (cc)
halves_ok p s t r within (Legal w row f u (Err e) even read decodes does after is) = absurd (cc)
halves_ok p s t r within (Legal w row f u (Ok set) even read decodes does after is) =
    legal_halves p s t r w row f u (Ok set) (Ok tt) within even read decodes does after is (not_carried p row f (cleared s) u set does)

-- ---- the program counter stays below 2 ^ 32

word_below : (z : ℤ) → word z < 2 ^ 32
word_below z = floor_mod-lt z 4294967296 (omega arith)

plus_below : (a : ℕ) (imm : ℤ) → plus_immediate a imm < 2 ^ 32
plus_below a imm = word_below (add a (word imm))

abbrev IsBelow : Outcome → Type 0
IsBelow o = o.answer ≡ Ok true → o.after.pc < 2 ^ 32

below_choice : (b : Bool) (x y : Outcome) → IsBelow x → IsBelow y → IsBelow (if b then x else y)
below_choice true x y p q = p
below_choice false x y p q = q

below_read : (extended : ℕ → ℤ) (rd a : ℕ) (s : State) (value : Option ℕ) → IsBelow (read_outcome extended rd a s value)
below_read extended rd a s None = λ h. absurd (cc)
below_read extended rd a s (Some v) = λ h. absurd (cc)

below_load : (n : ℕ) (extended : ℕ → ℤ) (rd a : ℕ) (s : State) → IsBelow (load_outcome n extended rd a s)
below_load n extended rd a s =
    below_choice (a % n == 0) _ _ (below_read extended rd a s (little_endian s.bytes a n)) (λ h. absurd (cc))

below_store : (n value a : ℕ) (s : State) → IsBelow (store_outcome n value a s)
below_store n value a s =
    below_choice (a % n == 0) _ _
    (below_choice (all_writable s.writable a n) (granted_outcome n value a s) (fault_outcome _ s) (λ h. absurd (cc)) (λ h. absurd (cc)))
    (λ h. absurd (cc))

below_branch : (taken : Bool) (imm : ℤ) (s : State) → IsBelow (branch_outcome taken imm s)
below_branch true imm s = λ h. plus_below s.pc imm
below_branch false imm s = λ h. absurd (cc)

abbrev IfAny : (Outcome → Type 0) → Option Outcome → Type 0
IfAny P None = Unit {0}
IfAny P (Some o) = P o

even_below : (x : ℕ) → x < 2 ^ 32 → made_even x < 2 ^ 32
even_below x low = omega (arith, low)

below_by : (action : Action) (f : Fields) (s : State) → IfAny IsBelow (outcome_by action f s)
below_by (Load n extended) (I f) s = below_load n extended f.rd (plus_immediate (reg s f.rs1) f.imm) s
below_by (Store n) (S f) s = below_store n (reg s f.rs2) (plus_immediate (reg s f.rs1) f.imm) s
below_by (BranchIf test) (B f) s = below_branch (test (reg s f.rs1) (reg s f.rs2)) f.imm s
below_by (BranchUnless test) (B f) s = below_branch (not (test (reg s f.rs1) (reg s f.rs2))) f.imm s
below_by JumpAndLink (J f) s = λ h. plus_below s.pc f.imm
below_by JumpAndLinkRegister (I f) s = λ h. even_below (plus_immediate (reg s f.rs1) f.imm) (plus_below (reg s f.rs1) f.imm)
below_by (Action.OnRegisters op) (R f) s = λ h. absurd (cc)
below_by (Action.OnImmediate op) (I f) s = λ h. absurd (cc)
below_by (Action.OnShamt op) (IShamt f) s = λ h. absurd (cc)
below_by Action.LoadUpper (U f) s = λ h. absurd (cc)
below_by Action.AddUpperToPc (U f) s = λ h. absurd (cc)
below_by Action.NoEffect (I f) s = λ h. absurd (cc)
below_by Action.CallEnvironment (I f) s = λ h. absurd (cc)
below_by Action.Break (I f) s = λ h. absurd (cc)
below_by _ _ s = tt

advanced_below : (row : Row) (f : Fields) (s u : State) (set : Bool) → Executes row f s u (Ok set) → (advanced u (Ok set)).pc < 2 ^ 32
advanced_below row f s u true does = subst (IfAny IsBelow) does (below_by (table row).action f s) refl
advanced_below row f s u false does = word_below (pos (u.pc + 4))

pub ok_below : (s t : State) → Step s t (Ok tt) → t.pc < 2 ^ 32
ok_below s t (Misaligned odd after is) = absurd (cc)
ok_below s t (Unmapped even none after is) = absurd (cc)
ok_below s t (Illegal w even read outside after is) = absurd (cc)
ok_below s t (Legal w row f u (Err e) even read decodes does after is) = absurd (cc)
ok_below s t (Legal w row f u (Ok set) even read decodes does after is) =
    subst (λ (x : State). x.pc < 2 ^ 32) (sym after) (advanced_below row f (cleared s) u set does)
