-- How long the texts of instructions are.
use Rattle.std.proofs.Common.{◌≡◌, ℕ, zero, suc, ◌+◌, ◌-◌, ◌/◌, ◌%◌, ◌^◌, ◌<◌, ◌≤◌, ◌==◌, ℤ, pos, negsuc, neg_ℤ, ◌≤ℤ◌, true, false, List, [], ◌∷◌, length, Option, Some, IfSome, subst, arith, replicate, length-append}
use Rattle.std.proofs.lemmas.List.{length-replicate}
use Rattle.std.proofs.Math.Nat.{pow-suc}
use Rattle.std.proofs.lemmas.Bool.{cond_both}
use Rattle.std.proofs.lemmas.Bool.Decides.{nat_tests}
use Rattle.std.proofs.lemmas.Fmt.{length-decimal-le}
use Rattle.std.proofs.lemmas.Int.{ints}
use Rattle.std.specs.Fmt.{decimal, signed_decimal, digits, digit_glyph, digits_onto}
use Rattle.std.proofs.DigitsParse.{digits_onto-nil}
use Rattle.rrs_instruction.specs.Words.{word}
use Rattle.rrs_instruction.specs.Encodings.{Fields, R, I, IShamt, S, B, U, J, IsInRange}
use Rattle.rrs_instruction.specs.Table.{Row, Action, OnRegisters, OnImmediate, OnShamt, LoadUpper, AddUpperToPc, BranchIf, BranchUnless, Load, Store, JumpAndLink, JumpAndLinkRegister, NoEffect, CallEnvironment, Break, table}
use Rattle.rrs_instruction.specs.Results.{add, plus_immediate}
use Rattle.rrs_instruction.proofs.Fields.{floor_mod-lt}
use Rattle.rrs_lib.specs.Texts.{name_of, register, text_by, text_of}

-- ---- names

-- the longest name of a row that does this
abbrev name_room : Action → ℕ
name_room (BranchIf test) = 4
name_room (BranchUnless test) = 4
name_room JumpAndLinkRegister = 4
name_room _ = 6

name_length : (row : Row) → length (name_of row) ≤ name_room (table row).action
name_length Row.Add = omega arith
name_length _ = omega arith

most_room : (a : Action) → name_room a ≤ 6
most_room (BranchIf test) = omega arith
most_room _ = omega arith

pub short_name : (row : Row) → length (name_of row) ≤ 6
short_name row = omega (arith, name_length row, most_room (table row).action)

-- ---- numbers

register_length : (r : ℕ) → r < 2 ^ 5 → length (register r) ≤ 3
register_length r small = let d = length-decimal-le 2 r (omega arith) (omega arith) (omega arith) in omega (arith, d)

shamt_length : (n : ℕ) → n < 2 ^ 5 → length (decimal n) ≤ 2
shamt_length n small = length-decimal-le 2 n (omega arith) (omega arith) (omega arith)

immediate_length : (z : ℤ) → neg_ℤ (pos 2048) ≤ℤ z → z ≤ℤ pos 2047 → length (signed_decimal z) ≤ 5
immediate_length (pos n) low high = let d = length-decimal-le 4 n (omega arith) (omega (arith, ints)) (omega (arith, ints)) in omega (arith, d)
immediate_length (negsuc n) low high = let d = length-decimal-le 4 (suc n) (omega arith) (omega (arith, ints)) (omega (arith, ints)) in omega (arith, d)

-- a number below 16 ^ (k + 1) adds at most k + 1 digits to those that are there
onto_length : (k j n : ℕ) (acc : List ℕ) → n < 16 ^ suc k → length (digits_onto j 16 false n acc) ≤ suc k + length acc
onto_length k zero n acc small = omega arith
onto_length zero (suc j) n acc small = let last : (n / 16 == 0) ≡ true = grind (arith, nat_tests, small) in rw last (omega arith)
onto_length (suc k) (suc j) n acc small =
    let fewer : n / 16 < 16 ^ suc k = omega (arith, pow-suc 16 (suc k), small) in
    cond_both (n / 16 == 0) _ _ (λ l. length l ≤ suc (suc k) + length acc) (λ t. omega arith)
    (λ t. omega (arith, onto_length k j (n / 16) (digit_glyph false (n % 16) ∷ acc) fewer))

digits_length : (x : ℕ) → x < 2 ^ 32 → length (digits 16 false x) ≤ 8
digits_length x small = subst (λ (l : List ℕ). length l ≤ 8) (digits_onto-nil 16 false x) (onto_length 7 64 x [] small)

-- the zeros in front, and the digits
abbrev hexadecimal_length : ℕ → ℕ → ℕ
hexadecimal_length n x = length (replicate {A = ℕ} (n - length (digits 16 false x)) 48) + length (digits 16 false x)

word_length : (n : ℕ) (z : ℤ) → n ≤ 8 → hexadecimal_length n (word z) ≤ 8
word_length n z few =
    let d = digits_length (word z) (floor_mod-lt z (2 ^ 32) (omega arith)) in simp length-replicate (omega (arith, d))

target_length : (pc : ℕ) (z : ℤ) → hexadecimal_length 8 (plus_immediate pc z) ≤ 8
target_length pc z = word_length 8 (add pc (word z)) (omega arith)

-- ---- texts

text_by_length : (a : Action) (row : Row) (f : Fields) (pc : ℕ) → length (name_of row) ≤ name_room a → IsInRange f → IfSome (text_by a row f pc) (λ text. length text ≤ 25)
text_by_length (OnRegisters op) row (R f) pc name h =
    simp length-append (omega (arith, register_length f.rd h.0, register_length f.rs1 h.2, register_length f.rs2 h.3))
text_by_length (OnImmediate op) row (I f) pc name h =
    simp length-append (omega (arith, register_length f.rd h.0, register_length f.rs1 h.2, immediate_length f.imm h.3 h.4))
text_by_length (OnShamt op) row (IShamt f) pc name h =
    simp length-append (omega (arith, register_length f.rd h.0, register_length f.rs1 h.2, shamt_length f.shamt h.3))
text_by_length LoadUpper row (U f) pc name h =
    simp length-append (omega (arith, register_length f.rd h.0, word_length 8 f.imm (omega arith)))
text_by_length AddUpperToPc row (U f) pc name h =
    simp length-append (omega (arith, register_length f.rd h.0, target_length pc f.imm))
text_by_length (BranchIf test) row (B f) pc name h =
    simp length-append (omega (arith, register_length f.rs1 h.1, register_length f.rs2 h.2, target_length pc f.imm))
text_by_length (BranchUnless test) row (B f) pc name h =
    simp length-append (omega (arith, register_length f.rs1 h.1, register_length f.rs2 h.2, target_length pc f.imm))
text_by_length (Load n extended) row (I f) pc name h =
    simp length-append (omega (arith, register_length f.rd h.0, register_length f.rs1 h.2, immediate_length f.imm h.3 h.4))
text_by_length (Store n) row (S f) pc name h =
    simp length-append (omega (arith, register_length f.rs1 h.1, register_length f.rs2 h.2, immediate_length f.imm h.3 h.4))
text_by_length JumpAndLink row (J f) pc name h =
    simp length-append (omega (arith, register_length f.rd h.0, target_length pc f.imm))
text_by_length JumpAndLinkRegister row (I f) pc name h =
    simp length-append (omega (arith, register_length f.rd h.0, register_length f.rs1 h.2, word_length 3 f.imm (omega arith)))
text_by_length NoEffect row (I f) pc name h = omega arith
text_by_length CallEnvironment row (I f) pc name h = omega arith
text_by_length Break row (I f) pc name h = omega arith
text_by_length _ row _ pc name h = tt

-- the text of a word is no longer
pub text_length : (row : Row) (f : Fields) (pc : ℕ) (text : List ℕ) → text_of row f pc ≡ Some text → IsInRange f → length text ≤ 25
text_length row f pc text e h =
    subst (λ o. IfSome o (λ t. length t ≤ 25)) e (text_by_length (table row).action row f pc (name_length row) h)
