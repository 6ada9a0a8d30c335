-- How the operands of a text are read back: of two texts with one name, operand by operand.
use Rattle.std.proofs.Common.{◌≡◌, ℕ, ◌+◌, ◌%◌, ◌^◌, ◌<◌, ℤ, pos, negsuc, neg_ℤ, ◌≤ℤ◌, ◌<ℤ◌, List, ◌∷◌, ◌++◌, Some, arith}
use Rattle.std.specs.Prelude.{codes}
use Rattle.std.specs.Int.Signed.{mag}
use Rattle.std.specs.Fmt.{decimal, signed_decimal}
use Rattle.std.proofs.lemmas.Int.{ints}
use Rattle.std.proofs.lemmas.List.{append_assoc, append_cancel_left, append_cancel_right}
use Rattle.std.proofs.lemmas.Option.{same_Some}
use Rattle.std.proofs.lemmas.Fmt.{decimal_injective, signed_decimal_injective}
use Rattle.rrs_lib.specs.declared.instruction_formats.RType.{RType}
use Rattle.rrs_lib.specs.declared.instruction_formats.IType.{IType}
use Rattle.rrs_lib.specs.declared.instruction_formats.ITypeShamt.{ITypeShamt}
use Rattle.rrs_lib.specs.declared.instruction_formats.SType.{SType}
use Rattle.rrs_lib.specs.declared.instruction_formats.BType.{BType}
use Rattle.rrs_lib.specs.declared.instruction_formats.UType.{UType}
use Rattle.rrs_lib.specs.declared.instruction_formats.JType.{JType}
use Rattle.rrs_lib.specs.Words.{word}
use Rattle.rrs_lib.specs.Encodings.{R, I, IShamt, S, B, U, J, IsInRange}
use Rattle.rrs_lib.specs.Table.{Row, table}
use Rattle.rrs_lib.specs.Results.{add, plus_immediate}
use Rattle.rrs_lib.specs.Texts.{register, hexadecimal, three_registers, two_registers, shifted_register, register_and_word, branch_to, register_and_place, jump_to_place}
use Rattle.rrs_lib.proofs.Fields.{same_from_remainder, floor_mod-lt}
use Rattle.rrs_extra.specs.Showing.{shown}
use Rattle.rrs_extra.proofs.Reading.{IsPiece, same_pieces, register_piece, signed_piece, hexadecimal_piece, same_register, same_hexadecimal}

-- ---- pieces

-- the operands follow the name and a blank
after_name : (name x y : List ℕ) → name ++ (32 ∷ x) ≡ name ++ (32 ∷ y) → x ≡ y
after_name name x y e = let tails : 32 ∷ x ≡ 32 ∷ y = append_cancel_left name (32 ∷ x) (32 ∷ y) e in cc

-- an operand, a comma and a blank, and what follows
first_operand : (a b x y : List ℕ) → IsPiece a → IsPiece b → a ++ (44 ∷ 32 ∷ x) ≡ b ++ (44 ∷ 32 ∷ y) → (a ≡ b) × (x ≡ y)
first_operand a b x y p q e =
    let read = same_pieces 44 a b (32 ∷ x) (32 ∷ y) (omega arith) p q e in
    let tails : 32 ∷ x ≡ 32 ∷ y = read.1 in
    (read.0, (cc))

-- two operands, and three, behind one name
two_operands : (name a b a' b' : List ℕ) → IsPiece a → IsPiece a'
    → name ++ (32 ∷ a ++ (44 ∷ 32 ∷ b)) ≡ name ++ (32 ∷ a' ++ (44 ∷ 32 ∷ b')) → (a ≡ a') × (b ≡ b')
two_operands name a b a' b' p p' e = first_operand a a' b b' p p' (after_name name _ _ e)

three_operands : (name a b c a' b' c' : List ℕ) → IsPiece a → IsPiece a' → IsPiece b → IsPiece b'
    → name ++ (32 ∷ a ++ (44 ∷ 32 ∷ b ++ (44 ∷ 32 ∷ c))) ≡ name ++ (32 ∷ a' ++ (44 ∷ 32 ∷ b' ++ (44 ∷ 32 ∷ c')))
    → (a ≡ a') × (b ≡ b') × (c ≡ c')
three_operands name a b c a' b' c' p p' q q' e =
    let first = two_operands name a (b ++ (44 ∷ 32 ∷ c)) a' (b' ++ (44 ∷ 32 ∷ c')) p p' e in
    let second = first_operand b b' c c' q q' first.1 in
    (first.0, second.0, second.1)

-- the last two operands as a place, the second in parentheses
place_operands : (name a b c a' b' c' : List ℕ) → IsPiece a → IsPiece a' → IsPiece b → IsPiece b'
    → name ++ (32 ∷ a ++ (44 ∷ 32 ∷ b ++ (40 ∷ c ++ codes ")"))) ≡ name ++ (32 ∷ a' ++ (44 ∷ 32 ∷ b' ++ (40 ∷ c' ++ codes ")")))
    → (a ≡ a') × (b ≡ b') × (c ≡ c')
place_operands name a b c a' b' c' p p' q q' e =
    let first = two_operands name a (b ++ (40 ∷ c ++ codes ")")) a' (b' ++ (40 ∷ c' ++ codes ")")) p p' e in
    let second = same_pieces 40 b b' (c ++ codes ")") (c' ++ codes ")") (omega arith) q q' first.1 in
    (first.0, second.0, append_cancel_right c c' (codes ")") second.1)

-- ---- immediates

-- the word of a number is below 2 ^ 32
word-lt : (z : ℤ) → word z < 2 ^ 32
word-lt z = floor_mod-lt z 4294967296 (omega arith)

-- an immediate of any format is determined by its word
same_immediate : (y z : ℤ) → neg_ℤ (pos 2147483648) ≤ℤ y → y <ℤ pos 2147483648 → neg_ℤ (pos 2147483648) ≤ℤ z → z <ℤ pos 2147483648 → word y ≡ word z → y ≡ z
same_immediate y z a b c d e = same_from_remainder 2147483648 y z a b c d e

-- words are equal if their sums with one address are equal modulo 2 ^ 32
same_summand : (a x y : ℕ) → x < 2 ^ 32 → y < 2 ^ 32 → (a + x) % 2 ^ 32 ≡ (a + y) % 2 ^ 32 → x ≡ y
same_summand a x y small small' e = omega arith

-- of sums with one address that are one word, the immediates have one word
same_offset : (pc : ℕ) (y z : ℤ) → plus_immediate pc y ≡ plus_immediate pc z → word y ≡ word z
same_offset pc y z e = same_summand pc (word y) (word z) (word-lt y) (word-lt z) e

-- the magnitude of an immediate of 12 bits
mag-imm : (z : ℤ) → neg_ℤ (pos 2048) ≤ℤ z → z ≤ℤ pos 2047 → mag z < 2 ^ 63
mag-imm (pos n) low high = omega (arith, ints)
mag-imm (negsuc n) low high = omega (arith, ints)

-- ---- texts with one name: they are equal exactly if what they show is

-- two registers and something behind them
two_registers_and : (name : List ℕ) (a b a' b' : ℕ) (c c' : List ℕ) → a < 2 ^ 5 → b < 2 ^ 5 → a' < 2 ^ 5 → b' < 2 ^ 5
    → name ++ (32 ∷ register a ++ (44 ∷ 32 ∷ register b ++ (44 ∷ 32 ∷ c)))
    ≡ name ++ (32 ∷ register a' ++ (44 ∷ 32 ∷ register b' ++ (44 ∷ 32 ∷ c'))) → (a ≡ a') × (b ≡ b') × (c ≡ c')
two_registers_and name a b a' b' c c' p q p' q' e =
    let same = three_operands name (register a) (register b) c (register a') (register b') c' (register_piece a p)
    (register_piece a' p') (register_piece b q) (register_piece b' q') e in
    (same_register a a' p p' same.0, same_register b b' q q' same.1, same.2)

-- three registers
pub three-alike : (row : Row) (f g : RType) → IsInRange (R f) → IsInRange (R g)
    → Some (three_registers row f) ≡ Some (three_registers row g) → shown (R f) ≡ shown (R g)
three-alike row f g p q e =
    let same = two_registers_and (table row).name f.rd f.rs1 g.rd g.rs1 (register f.rs2) (register g.rs2)
    p.0 p.2 q.0 q.2 (simp append_assoc at (same_Some _ _ e)) in
    cc (same.0, same.1, same_register f.rs2 g.rs2 p.3 q.3 same.2)

-- two registers and an immediate
pub two-alike : (row : Row) (f g : IType) → IsInRange (I f) → IsInRange (I g)
    → Some (two_registers row f) ≡ Some (two_registers row g) → shown (I f) ≡ shown (I g)
two-alike row f g p q e =
    let same = two_registers_and (table row).name f.rd f.rs1 g.rd g.rs1 (signed_decimal f.imm) (signed_decimal g.imm)
    p.0 p.2 q.0 q.2 (simp append_assoc at (same_Some _ _ e)) in
    cc (same.0, same.1, signed_decimal_injective f.imm g.imm (mag-imm f.imm p.3 p.4) (mag-imm g.imm q.3 q.4) same.2)

-- two registers and a shift amount
pub shift-alike : (row : Row) (f g : ITypeShamt) → IsInRange (IShamt f) → IsInRange (IShamt g)
    → Some (shifted_register row f) ≡ Some (shifted_register row g) → shown (IShamt f) ≡ shown (IShamt g)
shift-alike row f g p q e =
    let same = two_registers_and (table row).name f.rd f.rs1 g.rd g.rs1 (decimal f.shamt) (decimal g.shamt)
    p.0 p.2 q.0 q.2 (simp append_assoc at (same_Some _ _ e)) in
    cc (same.0, same.1, decimal_injective f.shamt g.shamt (omega (arith, p.3)) (omega (arith, q.3)) same.2)

-- a word is read back from its hexadecimal digits behind 0x
same_prefixed : (n : ℕ) (y z : ℤ) → codes "0x" ++ hexadecimal n (word y) ≡ codes "0x" ++ hexadecimal n (word z) → word y ≡ word z
same_prefixed n y z e =
    same_hexadecimal n (word y) (word z) (word-lt y) (word-lt z) (append_cancel_left (codes "0x") (hexadecimal n (word y)) (hexadecimal n (word z)) e)

prefixed_piece : (n : ℕ) (z : ℤ) → IsPiece (codes "0x" ++ hexadecimal n (word z))
prefixed_piece n z = (omega arith, (omega arith, hexadecimal_piece n (word z) (word-lt z)))

-- a register and a word
register_and_word-read : (row : Row) (q r : ℕ) (y z : ℤ) → q < 2 ^ 5 → r < 2 ^ 5
    → register_and_word row q (word y) ≡ register_and_word row r (word z) → (q ≡ r) × (word y ≡ word z)
register_and_word-read row q r y z p p' e =
    let same = two_operands (table row).name (register q) (codes "0x" ++ hexadecimal 8 (word y)) (register r) (codes "0x" ++ hexadecimal 8 (word z))
    (register_piece q p) (register_piece r p') (simp append_assoc at e) in
    (same_register q r p p' same.0, same_prefixed 8 y z same.1)

-- the word is of the immediate (lui), or of its sum with the address (auipc, jal)
pub lui-alike : (row : Row) (f g : UType) → IsInRange (U f) → IsInRange (U g)
    → Some (register_and_word row f.rd (word f.imm)) ≡ Some (register_and_word row g.rd (word g.imm)) → shown (U f) ≡ shown (U g)
lui-alike row f g p q e =
    let same = register_and_word-read row f.rd g.rd f.imm g.imm p.0 q.0 (same_Some _ _ e) in
    cc (same.0, same_immediate f.imm g.imm p.1 (omega (arith, ints)) q.1 (omega (arith, ints)) same.1)

pub auipc-alike : (row : Row) (pc : ℕ) (f g : UType) → IsInRange (U f) → IsInRange (U g)
    → Some (register_and_word row f.rd (plus_immediate pc f.imm)) ≡ Some (register_and_word row g.rd (plus_immediate pc g.imm)) → shown (U f) ≡ shown (U g)
auipc-alike row pc f g p q e =
    let same = register_and_word-read row f.rd g.rd (add pc (word f.imm)) (add pc (word g.imm)) p.0 q.0 (same_Some _ _ e) in
    cc (same.0, same_immediate f.imm g.imm p.1 (omega (arith, ints)) q.1 (omega (arith, ints)) (same_offset pc f.imm g.imm same.1))

pub jal-alike : (row : Row) (pc : ℕ) (f g : JType) → IsInRange (J f) → IsInRange (J g)
    → Some (register_and_word row f.rd (plus_immediate pc f.imm)) ≡ Some (register_and_word row g.rd (plus_immediate pc g.imm)) → shown (J f) ≡ shown (J g)
jal-alike row pc f g p q e =
    let same = register_and_word-read row f.rd g.rd (add pc (word f.imm)) (add pc (word g.imm)) p.0 q.0 (same_Some _ _ e) in
    cc (same.0, same_immediate f.imm g.imm (omega (arith, ints)) (omega (arith, ints)) (omega (arith, ints)) (omega (arith, ints)) (same_offset pc f.imm g.imm same.1))

-- two registers and a target
pub branch-alike : (row : Row) (pc : ℕ) (f g : BType) → IsInRange (B f) → IsInRange (B g)
    → Some (branch_to row f pc) ≡ Some (branch_to row g pc) → shown (B f) ≡ shown (B g)
branch-alike row pc f g p q e =
    let y : ℤ = add pc (word f.imm) in
    let z : ℤ = add pc (word g.imm) in
    let same = two_registers_and (table row).name f.rs1 f.rs2 g.rs1 g.rs2 (codes "0x" ++ hexadecimal 8 (word y))
    (codes "0x" ++ hexadecimal 8 (word z)) p.1 p.2 q.1 q.2 (simp append_assoc at (same_Some _ _ e)) in
    let offset = same_offset pc f.imm g.imm (same_prefixed 8 y z same.2) in
    cc (same.0, same.1, same_immediate f.imm g.imm (omega (arith, ints)) (omega (arith, ints)) (omega (arith, ints)) (omega (arith, ints)) offset)

-- a register and a place: loads and stores
register_and_place-read : (row : Row) (q q' : ℕ) (y z : ℤ) (r r' : ℕ) → q < 2 ^ 5 → q' < 2 ^ 5 → mag y < 2 ^ 63 → mag z < 2 ^ 63 → r < 2 ^ 5 → r' < 2 ^ 5
    → register_and_place row q y r ≡ register_and_place row q' z r' → (q ≡ q') × (y ≡ z) × (r ≡ r')
register_and_place-read row q q' y z r r' a a' b b' c c' e =
    let same = place_operands (table row).name (register q) (signed_decimal y) (register r) (register q') (signed_decimal z) (register r')
    (register_piece q a) (register_piece q' a') (signed_piece y b) (signed_piece z b') (simp append_assoc at e) in
    (same_register q q' a a' same.0, signed_decimal_injective y z b b' same.1, same_register r r' c c' same.2)

pub load-alike : (row : Row) (f g : IType) → IsInRange (I f) → IsInRange (I g)
    → Some (register_and_place row f.rd f.imm f.rs1) ≡ Some (register_and_place row g.rd g.imm g.rs1) → shown (I f) ≡ shown (I g)
load-alike row f g p q e =
    let same = register_and_place-read row f.rd g.rd f.imm g.imm f.rs1 g.rs1 p.0 q.0 (mag-imm f.imm p.3 p.4) (mag-imm g.imm q.3 q.4) p.2 q.2 (same_Some _ _ e) in
    (cc)

pub store-alike : (row : Row) (f g : SType) → IsInRange (S f) → IsInRange (S g)
    → Some (register_and_place row f.rs2 f.imm f.rs1) ≡ Some (register_and_place row g.rs2 g.imm g.rs1) → shown (S f) ≡ shown (S g)
store-alike row f g p q e =
    let same = register_and_place-read row f.rs2 g.rs2 f.imm g.imm f.rs1 g.rs1 p.2 q.2 (mag-imm f.imm p.3 p.4) (mag-imm g.imm q.3 q.4) p.1 q.1 (same_Some _ _ e) in
    (cc)

-- the operands of a jump, the second behind 0x
jump_operands : (name a b c a' b' c' : List ℕ) → IsPiece a → IsPiece a' → IsPiece (codes "0x" ++ b) → IsPiece (codes "0x" ++ b')
    → name ++ codes " " ++ a ++ codes ", 0x" ++ b ++ codes "(" ++ c ++ codes ")" ≡ name ++ codes " " ++ a' ++ codes ", 0x" ++ b' ++ codes "(" ++ c' ++ codes ")"
    → (a ≡ a') × (codes "0x" ++ b ≡ codes "0x" ++ b') × (c ≡ c')
jump_operands name a b c a' b' c' p p' q q' e =
    place_operands name a (codes "0x" ++ b) c a' (codes "0x" ++ b') c' p p' q q' (simp append_assoc at e)

-- a register and a place in hexadecimal: jalr
pub jalr-alike : (row : Row) (f g : IType) → IsInRange (I f) → IsInRange (I g)
    → Some (jump_to_place row f) ≡ Some (jump_to_place row g) → shown (I f) ≡ shown (I g)
jalr-alike row f g p q e =
    let same = jump_operands (table row).name (register f.rd) (hexadecimal 3 (word f.imm)) (register f.rs1)
    (register g.rd) (hexadecimal 3 (word g.imm)) (register g.rs1) (register_piece f.rd p.0) (register_piece g.rd q.0)
    (prefixed_piece 3 f.imm) (prefixed_piece 3 g.imm) (same_Some _ _ e) in
    cc (
      same_register f.rd g.rd p.0 q.0 same.0,
      same_register f.rs1 g.rs1 p.2 q.2 same.2,
      same_immediate f.imm g.imm (omega (arith, ints)) (omega (arith, ints)) (omega (arith, ints)) (omega (arith, ints))
          (same_prefixed 3 f.imm g.imm same.1),
    )
