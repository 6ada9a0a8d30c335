-- Fields written out by their values: one function for each format, in the order of its struct.
use Rattle.std.specs.Prelude.{ℕ, ℤ}
use Rattle.rrs_instruction.specs.Encodings.{Fields, R, I, IShamt, S, B, U, J}

abbrev pub of_R : (funct7 rs2 rs1 funct3 rd : ℕ) → Fields
of_R funct7 rs2 rs1 funct3 rd = R (record { funct7 = funct7; rs2 = rs2; rs1 = rs1; funct3 = funct3; rd = rd })

abbrev pub of_I : (imm : ℤ) (rs1 funct3 rd : ℕ) → Fields
of_I imm rs1 funct3 rd = I (record { imm = imm; rs1 = rs1; funct3 = funct3; rd = rd })

abbrev pub of_IShamt : (funct7 shamt rs1 funct3 rd : ℕ) → Fields
of_IShamt funct7 shamt rs1 funct3 rd = IShamt (record { funct7 = funct7; shamt = shamt; rs1 = rs1; funct3 = funct3; rd = rd })

abbrev pub of_S : (imm : ℤ) (rs2 rs1 funct3 : ℕ) → Fields
of_S imm rs2 rs1 funct3 = S (record { imm = imm; rs2 = rs2; rs1 = rs1; funct3 = funct3 })

abbrev pub of_B : (imm : ℤ) (rs2 rs1 funct3 : ℕ) → Fields
of_B imm rs2 rs1 funct3 = B (record { imm = imm; rs2 = rs2; rs1 = rs1; funct3 = funct3 })

abbrev pub of_U : (imm : ℤ) (rd : ℕ) → Fields
of_U imm rd = U (record { imm = imm; rd = rd })

abbrev pub of_J : (imm : ℤ) (rd : ℕ) → Fields
of_J imm rd = J (record { imm = imm; rd = rd })
