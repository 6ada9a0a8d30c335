-- The pseudo-instructions of the RISC-V assembly language (RISC-V unprivileged specification,
-- "RISC-V Assembly Programmer's Handbook"): which instructions each one is. Registers go by their
-- numbers: x1 is the link register, and x6 the one that `tail` uses. An offset is in bytes, from
-- the address of the pseudo-instruction; where a branch is a branch over a jump, from that of the
-- jump.
use Rattle.std.specs.Prelude.{◌≡◌, ℕ, ◌+◌, ◌*◌, ◌/◌, ◌%◌, ◌^◌, ℤ, pos, neg_ℤ, ◌+ℤ◌, ◌-ℤ◌, ◌≤ℤ◌, nat_lt, ◌==◌, if◌then◌else◌, List, [], ◌∷◌, option_to_list}
use Rattle.rrs_instruction.specs.declared.instruction.Instruction.{Instruction}
use Rattle.rrs_instruction.specs.Words.{signed, word, floor_mod}
use Rattle.rrs_asm.specs.declared.pseudo.Unary.{Unary}
use Rattle.rrs_asm.specs.declared.pseudo.Branch.{Branch}
use Rattle.rrs_asm.specs.declared.pseudo.ZeroBranch.{ZeroBranch}
use Rattle.rrs_asm.specs.declared.pseudo.SwappedBranch.{SwappedBranch}
use Rattle.rrs_asm.specs.declared.pseudo.SwappedComparison.{SwappedComparison}
use Rattle.rrs_asm.specs.declared.pseudo.Load.{Load}
use Rattle.rrs_asm.specs.declared.pseudo.Store.{Store}
use Rattle.rrs_asm.specs.declared.pseudo.Pseudo.{Pseudo}
use Rattle.rrs_asm.specs.declared.pseudo.Expansion.{Expansion}

-- ---- a word as the sum of a multiple of 4096 and an immediate of 12 bits

-- the lower 12 bits, sign-extended
abbrev pub lower : ℕ → ℤ
lower v = if nat_lt (v % 4096) 2048 then pos (v % 4096) else pos (v % 4096) -ℤ pos 4096

-- the multiple of 4096 that is left, as a signed number
abbrev pub upper : ℕ → ℤ
upper v = signed ((v + 2048) % 2 ^ 32 / 4096 * 4096)

-- the two make up the word: the one is an immediate of `lui` and `auipc`, and the other of 12 bits
pub record AreHalves (v : ℕ) (high low : ℤ) : Type 0 where
  pub multiple : floor_mod high 4096 ≡ 0
  pub least : neg_ℤ (pos 2048) ≤ℤ low
  pub most : low ≤ℤ pos 2047
  pub whole : word (high +ℤ low) ≡ v

-- ---- instructions by their operands

abbrev pub addi : ℕ → ℕ → ℤ → Instruction
addi rd rs imm = Instruction.Addi (record { imm = imm; rs1 = rs; funct3 = 0; rd = rd })

abbrev pub lui : ℕ → ℤ → Instruction
lui rd imm = Instruction.Lui (record { imm = imm; rd = rd })

abbrev pub auipc : ℕ → ℤ → Instruction
auipc rd imm = Instruction.Auipc (record { imm = imm; rd = rd })

abbrev pub jal : ℕ → ℤ → Instruction
jal rd offset = Instruction.Jal (record { imm = offset; rd = rd })

abbrev pub jalr : ℕ → ℤ → ℕ → Instruction
jalr rd imm rs = Instruction.Jalr (record { imm = imm; rs1 = rs; funct3 = 0; rd = rd })

-- `fence iorw, iorw`
abbrev pub fence_all : Instruction
fence_all = Instruction.Fence (record { imm = pos 0xff; rs1 = 0; funct3 = 0; rd = 0 })

-- ---- the table

abbrev pub of_one : Unary → ℕ → ℕ → Instruction
of_one Unary.Mv rd rs = addi rd rs (pos 0)
of_one Unary.Not rd rs =
    Instruction.Xori (record { imm = neg_ℤ (pos 1); rs1 = rs; funct3 = 4; rd = rd })
of_one Unary.Neg rd rs =
    Instruction.Sub (record { funct7 = 0x20; rs2 = rs; rs1 = 0; funct3 = 0; rd = rd })
of_one Unary.Seqz rd rs =
    Instruction.Sltiu (record { imm = pos 1; rs1 = rs; funct3 = 3; rd = rd })
of_one Unary.Snez rd rs =
    Instruction.Sltu (record { funct7 = 0; rs2 = rs; rs1 = 0; funct3 = 3; rd = rd })
of_one Unary.Sltz rd rs =
    Instruction.Slt (record { funct7 = 0; rs2 = 0; rs1 = rs; funct3 = 2; rd = rd })
of_one Unary.Sgtz rd rs =
    Instruction.Slt (record { funct7 = 0; rs2 = rs; rs1 = 0; funct3 = 2; rd = rd })
of_one Unary.ZextB rd rs =
    Instruction.Andi (record { imm = pos 0xff; rs1 = rs; funct3 = 7; rd = rd })

abbrev pub branch : Branch → ℕ → ℕ → ℤ → Instruction
branch Branch.Beq rs rt offset =
    Instruction.Beq (record { imm = offset; rs2 = rt; rs1 = rs; funct3 = 0 })
branch Branch.Bne rs rt offset =
    Instruction.Bne (record { imm = offset; rs2 = rt; rs1 = rs; funct3 = 1 })
branch Branch.Blt rs rt offset =
    Instruction.Blt (record { imm = offset; rs2 = rt; rs1 = rs; funct3 = 4 })
branch Branch.Bge rs rt offset =
    Instruction.Bge (record { imm = offset; rs2 = rt; rs1 = rs; funct3 = 5 })
branch Branch.Bltu rs rt offset =
    Instruction.Bltu (record { imm = offset; rs2 = rt; rs1 = rs; funct3 = 6 })
branch Branch.Bgeu rs rt offset =
    Instruction.Bgeu (record { imm = offset; rs2 = rt; rs1 = rs; funct3 = 7 })

-- the branch that is taken where another is not

abbrev pub opposite : Branch → Branch
opposite Branch.Beq = Branch.Bne
opposite Branch.Bne = Branch.Beq
opposite Branch.Blt = Branch.Bge
opposite Branch.Bge = Branch.Blt
opposite Branch.Bltu = Branch.Bgeu
opposite Branch.Bgeu = Branch.Bltu

abbrev pub opposite_of_zero : ZeroBranch → ZeroBranch
opposite_of_zero ZeroBranch.Beqz = ZeroBranch.Bnez
opposite_of_zero ZeroBranch.Bnez = ZeroBranch.Beqz
opposite_of_zero ZeroBranch.Blez = ZeroBranch.Bgtz
opposite_of_zero ZeroBranch.Bgez = ZeroBranch.Bltz
opposite_of_zero ZeroBranch.Bltz = ZeroBranch.Bgez
opposite_of_zero ZeroBranch.Bgtz = ZeroBranch.Blez

abbrev pub opposite_of_swapped : SwappedBranch → SwappedBranch
opposite_of_swapped SwappedBranch.Bgt = SwappedBranch.Ble
opposite_of_swapped SwappedBranch.Ble = SwappedBranch.Bgt
opposite_of_swapped SwappedBranch.Bgtu = SwappedBranch.Bleu
opposite_of_swapped SwappedBranch.Bleu = SwappedBranch.Bgtu

abbrev pub against_zero : ZeroBranch → ℕ → ℤ → Instruction
against_zero ZeroBranch.Beqz rs offset =
    Instruction.Beq (record { imm = offset; rs2 = 0; rs1 = rs; funct3 = 0 })
against_zero ZeroBranch.Bnez rs offset =
    Instruction.Bne (record { imm = offset; rs2 = 0; rs1 = rs; funct3 = 1 })
against_zero ZeroBranch.Blez rs offset =
    Instruction.Bge (record { imm = offset; rs2 = rs; rs1 = 0; funct3 = 5 })
against_zero ZeroBranch.Bgez rs offset =
    Instruction.Bge (record { imm = offset; rs2 = 0; rs1 = rs; funct3 = 5 })
against_zero ZeroBranch.Bltz rs offset =
    Instruction.Blt (record { imm = offset; rs2 = 0; rs1 = rs; funct3 = 4 })
against_zero ZeroBranch.Bgtz rs offset =
    Instruction.Blt (record { imm = offset; rs2 = rs; rs1 = 0; funct3 = 4 })

abbrev pub swapped : SwappedBranch → ℕ → ℕ → ℤ → Instruction
swapped SwappedBranch.Bgt rs rt offset =
    Instruction.Blt (record { imm = offset; rs2 = rs; rs1 = rt; funct3 = 4 })
swapped SwappedBranch.Ble rs rt offset =
    Instruction.Bge (record { imm = offset; rs2 = rs; rs1 = rt; funct3 = 5 })
swapped SwappedBranch.Bgtu rs rt offset =
    Instruction.Bltu (record { imm = offset; rs2 = rs; rs1 = rt; funct3 = 6 })
swapped SwappedBranch.Bleu rs rt offset =
    Instruction.Bgeu (record { imm = offset; rs2 = rs; rs1 = rt; funct3 = 7 })

abbrev pub compared : SwappedComparison → ℕ → ℕ → ℕ → Instruction
compared SwappedComparison.Sgt rd rs rt =
    Instruction.Slt (record { funct7 = 0; rs2 = rs; rs1 = rt; funct3 = 2; rd = rd })
compared SwappedComparison.Sgtu rd rs rt =
    Instruction.Sltu (record { funct7 = 0; rs2 = rs; rs1 = rt; funct3 = 3; rd = rd })

-- a load into `rd` from `imm(rs)`
abbrev pub load : Load → ℕ → ℕ → ℤ → Instruction
load Load.Lb rd rs imm = Instruction.Lb (record { imm = imm; rs1 = rs; funct3 = 0; rd = rd })
load Load.Lbu rd rs imm = Instruction.Lbu (record { imm = imm; rs1 = rs; funct3 = 4; rd = rd })
load Load.Lh rd rs imm = Instruction.Lh (record { imm = imm; rs1 = rs; funct3 = 1; rd = rd })
load Load.Lhu rd rs imm = Instruction.Lhu (record { imm = imm; rs1 = rs; funct3 = 5; rd = rd })
load Load.Lw rd rs imm = Instruction.Lw (record { imm = imm; rs1 = rs; funct3 = 2; rd = rd })

-- a store of `rs` at `imm(rt)`
abbrev pub store : Store → ℕ → ℕ → ℤ → Instruction
store Store.Sb rs rt imm = Instruction.Sb (record { imm = imm; rs2 = rs; rs1 = rt; funct3 = 0 })
store Store.Sh rs rt imm = Instruction.Sh (record { imm = imm; rs2 = rs; rs1 = rt; funct3 = 1 })
store Store.Sw rs rt imm = Instruction.Sw (record { imm = imm; rs2 = rs; rs1 = rt; funct3 = 2 })

-- `addi` where the value is an immediate of 12 bits, and else `lui`, and `addi` if something is
-- left
abbrev pub load_immediate : ℕ → ℕ → List Instruction
load_immediate rd value =
    if (value + 2048) % 2 ^ 32 / 4096 == 0 then addi rd 0 (lower value) ∷ []
    else if value % 4096 == 0 then lui rd (upper value) ∷ []
    else lui rd (upper value) ∷ addi rd rd (lower value) ∷ []

-- the instructions that a pseudo-instruction is
abbrev pub expanded : Pseudo → List Instruction
expanded Pseudo.Nop = addi 0 0 (pos 0) ∷ []
expanded Pseudo.Ret = jalr 0 (pos 0) 1 ∷ []
expanded Pseudo.Fence = fence_all ∷ []
expanded (Pseudo.Li rd value) = load_immediate rd value
expanded (Pseudo.La rd offset) = auipc rd (upper offset) ∷ addi rd rd (lower offset) ∷ []
expanded (Pseudo.Lla rd offset) = auipc rd (upper offset) ∷ addi rd rd (lower offset) ∷ []
expanded (Pseudo.From name rd offset) =
    auipc rd (upper offset) ∷ load name rd rd (lower offset) ∷ []
expanded (Pseudo.At name rs rt offset) =
    auipc rt (upper offset) ∷ store name rs rt (lower offset) ∷ []
expanded (Pseudo.Compared name rd rs rt) = compared name rd rs rt ∷ []
expanded (Pseudo.Jump rt offset) = auipc rt (upper offset) ∷ jalr 0 (lower offset) rt ∷ []
expanded (Pseudo.OfOne name rd rs) = of_one name rd rs ∷ []
expanded (Pseudo.AgainstZero name rs offset) = against_zero name rs offset ∷ []
expanded (Pseudo.Swapped name rs rt offset) = swapped name rs rt offset ∷ []
expanded (Pseudo.Far name rs rt offset) =
    branch (opposite name) rs rt (pos 8) ∷ jal 0 offset ∷ []
expanded (Pseudo.FarFromZero name rs offset) =
    against_zero (opposite_of_zero name) rs (pos 8) ∷ jal 0 offset ∷ []
expanded (Pseudo.FarSwapped name rs rt offset) =
    swapped (opposite_of_swapped name) rs rt (pos 8) ∷ jal 0 offset ∷ []
expanded (Pseudo.J offset) = jal 0 offset ∷ []
expanded (Pseudo.Jal offset) = jal 1 offset ∷ []
expanded (Pseudo.Jr rs) = jalr 0 (pos 0) rs ∷ []
expanded (Pseudo.Jalr rs) = jalr 1 (pos 0) rs ∷ []
expanded (Pseudo.Call offset) = auipc 1 (upper offset) ∷ jalr 1 (lower offset) 1 ∷ []
expanded (Pseudo.Tail offset) = auipc 6 (upper offset) ∷ jalr 0 (lower offset) 6 ∷ []

-- the instructions of an expansion in their order
abbrev pub listed : Expansion → List Instruction
listed expansion = expansion.first ∷ option_to_list expansion.second
