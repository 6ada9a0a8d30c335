-- The texts of the compressed instructions (RISC-V unprivileged specification, "C" Extension for
-- Compressed Instructions; GNU binutils: which operands are written, in this order). A register, an
-- address and the whole value of c.lui are written as in the texts of the 48 rows.
use Rattle.std.specs.Prelude.{ℕ, ◌++◌, List, [], ℤ, pos, ◌*ℤ◌, codes}
use Rattle.std.specs.Fmt.{signed_decimal}
use Rattle.rrs_instruction.specs.Words.{word}
use Rattle.rrs_instruction.specs.Results.{plus_immediate}
use Rattle.rrs_lib.specs.Texts.{register, hexadecimal}
use Rattle.rrs_words.specs.declared.forms.ShortForm.{ShortForm}
use Rattle.rrs_words.specs.declared.forms.ShortForm.TheVariants.{Addi4spn, Lw, Sw, Addi, Jal, Li, Addi16sp, Lui, Srli, Srai, Andi, Sub, Xor, Or, And, J, Beqz, Bnez, Slli, Lwsp, Jr, Mv, Ebreak, Jalr, Add, Swsp}
use Rattle.rrs_words.specs.declared.forms.ShortOperands.{ShortOperands}
use Rattle.rrs_words.specs.Forms.{form_table, extended}

-- xA
abbrev pub one_register : ShortOperands → List ℕ
one_register o = codes " " ++ register o.first

-- xA, xB
abbrev pub two_registers : ShortOperands → List ℕ
two_registers o = codes " " ++ register o.first ++ codes ", " ++ register o.second

-- xA, number
abbrev pub register_and_number : ShortOperands → ℤ → List ℕ
register_and_number o n = codes " " ++ register o.first ++ codes ", " ++ signed_decimal n

-- xA, number(xB)
abbrev pub register_and_place : ShortOperands → List ℕ
register_and_place o =
    codes " " ++ register o.first ++ codes ", " ++ signed_decimal (pos o.imm)
    ++ codes "(" ++ register o.second ++ codes ")"

-- xA, and a word or an address in hexadecimal
abbrev pub register_and_word : ShortOperands → ℕ → List ℕ
register_and_word o x = codes " " ++ register o.first ++ codes ", 0x" ++ hexadecimal 8 x

-- an address
abbrev pub target : ℕ → List ℕ
target x = codes " 0x" ++ hexadecimal 8 x

-- what stands behind the name
abbrev pub operands_text : ShortForm → ShortOperands → ℕ → List ℕ
operands_text Addi4spn o pc = two_registers o ++ codes ", " ++ signed_decimal (pos o.imm)
operands_text Lw o pc = register_and_place o
operands_text Sw o pc = register_and_place o
operands_text Addi o pc = register_and_number o (extended 6 o.imm)
operands_text Jal o pc = target (plus_immediate pc (extended 12 o.imm))
operands_text Li o pc = register_and_number o (extended 6 o.imm)
operands_text Addi16sp o pc = register_and_number o (extended 10 o.imm)
operands_text Lui o pc = register_and_word o (word (extended 6 o.imm *ℤ pos 4096))
operands_text Srli o pc = register_and_number o (pos o.imm)
operands_text Srai o pc = register_and_number o (pos o.imm)
operands_text Andi o pc = register_and_number o (extended 6 o.imm)
operands_text Sub o pc = two_registers o
operands_text Xor o pc = two_registers o
operands_text Or o pc = two_registers o
operands_text And o pc = two_registers o
operands_text J o pc = target (plus_immediate pc (extended 12 o.imm))
operands_text Beqz o pc = register_and_word o (plus_immediate pc (extended 9 o.imm))
operands_text Bnez o pc = register_and_word o (plus_immediate pc (extended 9 o.imm))
operands_text Slli o pc = register_and_number o (pos o.imm)
operands_text Lwsp o pc = register_and_place o
operands_text Jr o pc = one_register o
operands_text Mv o pc = two_registers o
operands_text Ebreak o pc = []
operands_text Jalr o pc = one_register o
operands_text Add o pc = two_registers o
operands_text Swsp o pc = register_and_place o

-- the text of a compressed instruction at an address
abbrev pub short_text : ShortForm → ShortOperands → ℕ → List ℕ
short_text form o pc = (form_table form).name ++ operands_text form o pc
