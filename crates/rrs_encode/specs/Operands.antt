-- The fields of a format with other operands, of which each format has some. A shift amount is
-- the magnitude of the immediate.
use Rattle.std.specs.Prelude.{unsigned_abs}
use Rattle.rrs_instruction.specs.Encodings.{Fields, R, I, IShamt, S, B, U, J}
use Rattle.rrs_encode.specs.declared.operands.Operands.{Operands}

abbrev pub with_operands : Fields → Operands → Fields
with_operands (R f) o = R (record f { rd = o.rd; rs1 = o.rs1; rs2 = o.rs2 })
with_operands (I f) o = I (record f { rd = o.rd; rs1 = o.rs1; imm = o.imm })
with_operands (IShamt f) o = IShamt (record f { rd = o.rd; rs1 = o.rs1; shamt = unsigned_abs o.imm })
with_operands (S f) o = S (record f { rs1 = o.rs1; rs2 = o.rs2; imm = o.imm })
with_operands (B f) o = B (record f { rs1 = o.rs1; rs2 = o.rs2; imm = o.imm })
with_operands (U f) o = U (record { rd = o.rd; imm = o.imm })
with_operands (J f) o = J (record { rd = o.rd; imm = o.imm })
