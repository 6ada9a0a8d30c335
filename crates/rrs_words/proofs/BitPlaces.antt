-- The places of a word of Zba to Zicond, and that it is one instruction at most.
use Rattle.std.proofs.Common.{◌≡◌, ℕ, ◌+◌, ◌*◌, ◌%◌, ◌==◌, ◌<◌, ◌⊎◌, inl, inr, if◌then◌else◌, Option, Some, None, IfSome, IfNone, refl, sym, subst, ap, ◌∙◌, arith}
use Rattle.std.proofs.lemmas.Bool.{ne_eqb}
use Rattle.std.proofs.lemmas.Option.{same_Some}
use Rattle.rrs_instruction.specs.declared.instruction_formats.RType.{RType}
use Rattle.rrs_instruction.specs.Encodings.{Fields, R, encode}
use Rattle.rrs_instruction.proofs.Places.{places-R, same_fields_of}
use Rattle.rrs_words.specs.declared.bits.BitRow.{BitRow}
use Rattle.rrs_words.specs.declared.bits.BitRow.TheVariants.{Sh1add, Sh2add, Sh3add, Andn, Orn, Xnor, Clz, Ctz, Cpop, Max, Maxu, Min, Minu, SextB, SextH, ZextH, Rol, Ror, Rori, OrcB, Rev8, Bclr, Bclri, Bext, Bexti, Binv, Binvi, Bset, Bseti, Clmul, Clmulh, Clmulr, Pack, Packh, Brev8, Zip, Unzip, CzeroEqz, CzeroNez}
use Rattle.rrs_words.specs.declared.bits.BitInstruction.{BitInstruction}
use Rattle.rrs_words.specs.BitInstructions.{bit_table, IsOperand, HasBits, IsBits}

pub bit_decoded_again : (result : Option BitInstruction) (w : ℕ) (i : BitInstruction) → IsBits w i.row i.fields
    → IfNone result ((row : BitRow) (f : RType) → ¬ IsBits w row f)
    → IfSome result (λ x. (row : BitRow) (f : RType) → IsBits w row f → (row ≡ x.row) × (f ≡ x.fields))
    → result ≡ Some i
bit_decoded_again None w i is outside only = absurd (outside i.row i.fields is)
bit_decoded_again (Some x) w i is outside only =
    let same = only i.row i.fields is in
    let made : x ≡ i = λ k. record { row = sym same.0 k; fields = sym same.1 k } in
    ap Some made

-- ---- the row of the fields, by funct7 and funct3 as one number

abbrev on_registers : ℕ → ℕ → Option BitRow
on_registers key n =
    if key == 130 then Some Sh1add
    else (if key == 132 then Some Sh2add
    else (if key == 134 then Some Sh3add
    else (if key == 263 then Some Andn
    else (if key == 262 then Some Orn
    else (if key == 260 then Some Xnor
    else (if key == 46 then Some Max
    else (if key == 47 then Some Maxu
    else (if key == 44 then Some Min
    else (if key == 45 then Some Minu
    else (if key == 36 then (if n == 0 then Some ZextH else Some Pack)
    else (if key == 39 then Some Packh
    else (if key == 41 then Some Clmul
    else (if key == 43 then Some Clmulh
    else (if key == 42 then Some Clmulr
    else (if key == 61 then Some CzeroEqz
    else (if key == 63 then Some CzeroNez
    else (if key == 385 then Some Rol
    else (if key == 389 then Some Ror
    else (if key == 289 then Some Bclr
    else (if key == 293 then Some Bext
    else (if key == 417 then Some Binv
    else (if key == 161 then Some Bset
    else None))))))))))))))))))))))

abbrev counting : ℕ → Option BitRow
counting n =
    if n == 0 then Some Clz
    else (if n == 1 then Some Ctz
    else (if n == 2 then Some Cpop
    else (if n == 4 then Some SextB
    else (if n == 5 then Some SextH
    else None))))

abbrev on_immediate : ℕ → ℕ → Option BitRow
on_immediate key n =
    if key == 385 then counting n
    else (if key == 389 then Some Rori
    else (if key == 165 then Some OrcB
    else (if key == 421 then (if n == 24 then Some Rev8 else (if n == 7 then Some Brev8 else None))
    else (if key == 33 then (if n == 15 then Some Zip else None)
    else (if key == 37 then (if n == 15 then Some Unzip else None)
    else (if key == 289 then Some Bclri
    else (if key == 293 then Some Bexti
    else (if key == 417 then Some Binvi
    else (if key == 161 then Some Bseti
    else None)))))))))

abbrev row_at : ℕ → ℕ → ℕ → ℕ → Option BitRow
row_at opcode funct7 funct3 n =
    if opcode == 0x33 then on_registers (funct7 * 8 + funct3) n else on_immediate (funct7 * 8 + funct3) n

row_at-table : (row : BitRow) (n : ℕ) → IsOperand (bit_table row).operand n
    → row_at (bit_table row).opcode (bit_table row).funct7 (bit_table row).funct3 n ≡ Some row
row_at-table Clz n is = ap counting is
row_at-table Ctz n is = ap counting is
row_at-table Cpop n is = ap counting is
row_at-table SextB n is = ap counting is
row_at-table SextH n is = ap counting is
row_at-table ZextH n is = ap (on_registers 36) is
row_at-table Pack n is = rw (ne_eqb n 0 is) refl
row_at-table Rev8 n is = ap (on_immediate 421) is
row_at-table Brev8 n is = ap (on_immediate 421) is
row_at-table Zip n is = ap (on_immediate 33) is
row_at-table Unzip n is = ap (on_immediate 37) is
row_at-table _ n is = refl

row_at-is : (row : BitRow) (f : RType) → HasBits row f → row_at (bit_table row).opcode f.funct7 f.funct3 f.rs2 ≡ Some row
row_at-is row f has = (λ k. row_at (bit_table row).opcode (has.funct7 k) (has.funct3 k) f.rs2) ∙ row_at-table row f.rs2 has.operand

-- ---- the opcode

pub opcodes : (row : BitRow) → ((bit_table row).opcode ≡ 0x33) ⊎ ((bit_table row).opcode ≡ 0x13)
opcodes Clz = inr refl
opcodes Ctz = inr refl
opcodes Cpop = inr refl
opcodes SextB = inr refl
opcodes SextH = inr refl
opcodes Rori = inr refl
opcodes OrcB = inr refl
opcodes Rev8 = inr refl
opcodes Bclri = inr refl
opcodes Bexti = inr refl
opcodes Binvi = inr refl
opcodes Bseti = inr refl
opcodes Brev8 = inr refl
opcodes Zip = inr refl
opcodes Unzip = inr refl
opcodes _ = inl refl

small_one : (n : ℕ) → (n ≡ 0x33) ⊎ (n ≡ 0x13) → n < 128
small_one n (inl is) = omega (arith, is)
small_one n (inr is) = omega (arith, is)

pub opcode_of_bits : (w : ℕ) (row : BitRow) (f : RType) → IsBits w row f → w % 128 ≡ (bit_table row).opcode
opcode_of_bits w row f is = (places-R w (bit_table row).opcode f (small_one _ (opcodes row)) is.in_range is.encoded).0

pub opcodes_of_bits : (w : ℕ) (row : BitRow) (f : RType) → IsBits w row f → (w % 128 ≡ 0x33) ⊎ (w % 128 ≡ 0x13)
opcodes_of_bits w row f is = subst (λ n. (n ≡ 0x33) ⊎ (n ≡ 0x13)) (sym (opcode_of_bits w row f is)) (opcodes row)

-- ---- one row at most

-- the fields in a format R
abbrev fields_in_R : RType → Fields → RType
fields_in_R other (R f) = f
fields_in_R other _ = other

pub bits-unique : (w : ℕ) (row row' : BitRow) (f f' : RType) → IsBits w row f → IsBits w row' f' → (row ≡ row') × (f ≡ f')
bits-unique w row row' f f' is is' =
    let one : (bit_table row').opcode ≡ (bit_table row).opcode = sym (opcode_of_bits w row' f' is') ∙ opcode_of_bits w row f is in
    let encoded : w ≡ encode (bit_table row).opcode (R f') = is'.encoded ∙ ap (λ n. encode n (R f')) one in
    let fields = same_fields_of w (bit_table row).opcode (R f) (R f') (small_one _ (opcodes row)) refl is.in_range is'.in_range is.encoded encoded in
    let same : f ≡ f' = ap (fields_in_R f) fields in
    let moved : row_at (bit_table row).opcode f.funct7 f.funct3 f.rs2 ≡ row_at (bit_table row').opcode f'.funct7 f'.funct3 f'.rs2 =
    λ k. row_at (sym one k) (same k).funct7 (same k).funct3 (same k).rs2 in
    (same_Some _ _ (sym (row_at-is row f is.has) ∙ moved ∙ row_at-is row' f' is'.has), same)
