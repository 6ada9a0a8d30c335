-- The operands of an instruction, by the format of its fields, and what it accesses, by what its
-- row does. fence, ecall and ebreak have the operands of format I too, and use none of them.
use Rattle.std.specs.Prelude.{ℕ, ℤ, Option, Some, None}
use Rattle.rrs_instruction.specs.declared.instruction.operands.DataAccess.{DataAccess}
use Rattle.rrs_instruction.specs.Encodings.{Fields, R, I, IShamt, S, B, U, J}
use Rattle.rrs_instruction.specs.Table.{Action, Load, Store}

-- the register that is written: a store and a branch have none
abbrev pub rd_of : Fields → Option ℕ
rd_of (R f) = Some f.rd
rd_of (I f) = Some f.rd
rd_of (IShamt f) = Some f.rd
rd_of (S f) = None
rd_of (B f) = None
rd_of (U f) = Some f.rd
rd_of (J f) = Some f.rd

-- the first register that is read
abbrev pub rs1_of : Fields → Option ℕ
rs1_of (R f) = Some f.rs1
rs1_of (I f) = Some f.rs1
rs1_of (IShamt f) = Some f.rs1
rs1_of (S f) = Some f.rs1
rs1_of (B f) = Some f.rs1
rs1_of (U f) = None
rs1_of (J f) = None

-- the second register that is read: of a store the one whose value is stored
abbrev pub rs2_of : Fields → Option ℕ
rs2_of (R f) = Some f.rs2
rs2_of (S f) = Some f.rs2
rs2_of (B f) = Some f.rs2
rs2_of _ = None

-- the immediate: a shift amount is none
abbrev pub immediate_of : Fields → Option ℤ
immediate_of (R f) = None
immediate_of (I f) = Some f.imm
immediate_of (IShamt f) = None
immediate_of (S f) = Some f.imm
immediate_of (B f) = Some f.imm
immediate_of (U f) = Some f.imm
immediate_of (J f) = Some f.imm

-- the shift amount
abbrev pub shift_amount_of : Fields → Option ℕ
shift_amount_of (IShamt f) = Some f.shamt
shift_amount_of _ = None

-- what a kind of action accesses: a load or a store of so many bytes, or nothing
abbrev pub access_of : Action → Option DataAccess
access_of (Load n extended) = Some (DataAccess.Load n)
access_of (Store n) = Some (DataAccess.Store n)
access_of _ = None
