-- The compressed instructions (RISC-V unprivileged specification, "C" Extension for Compressed
-- Instructions, "RVC Instruction Set Listings": RV32C without floating point; c.nop is c.addi with
-- x0). A line of the table is a form: which bits each of its half-words has, its registers, its
-- immediate, what its half-words may not have, the row of the 48 that it stands for, and the fields
-- of that row. A half-word is the sum of these, each times the power of two of its place, as a word
-- is. Hints are forms: what they stand for changes no register. Encodings that are reserved, those
-- of floating point, and shifts by 32 and more are none.
use Rattle.std.specs.Prelude.{◌≡◌, ◌≢◌, ℕ, ◌+◌, ◌-◌, ◌*◌, ◌/◌, ◌%◌, ◌^◌, ◌<◌, ◌≤◌, List, [], ◌∷◌, ℤ, pos, ◌-ℤ◌, ◌*ℤ◌, nat_lt, if◌then◌else◌, codes}
use Rattle.rrs_instruction.specs.Encodings.{Fields, R, I, IShamt, S, B, U, J}
use Rattle.rrs_instruction.specs.Table.{Row}
use Rattle.rrs_words.specs.declared.forms.ShortForm.{ShortForm}
use Rattle.rrs_words.specs.declared.forms.ShortForm.TheVariants.{Addi4spn, Lw, Sw, Addi, Jal, Li, Addi16sp, Lui, Srli, Srai, Andi, Sub, Xor, Or, And, J, Beqz, Bnez, Slli, Lwsp, Jr, Mv, Ebreak, Jalr, Add, Swsp}
use Rattle.rrs_words.specs.declared.forms.ShortOperands.{ShortOperands}

-- ---- registers

-- None; x2, which takes no bits; one of x0 to x31, in five bits from a place on; or one of x8 to
-- x15, in three.
pub data Register : Type 0 where
  No : Register
  Stack : Register
  Five : ℕ → Register
  Three : ℕ → Register

abbrev pub IsRegister : Register → ℕ → Type 0
IsRegister No r = r ≡ 0
IsRegister Stack r = r ≡ 2
IsRegister (Five place) r = r < 32
IsRegister (Three place) r = (8 ≤ r) × (r < 16)

abbrev pub register_bits : Register → ℕ → ℕ
register_bits No r = 0
register_bits Stack r = 0
register_bits (Five place) r = r * 2 ^ place
register_bits (Three place) r = (r - 8) * 2 ^ place

-- ---- immediates

-- a piece: bits `low` to `low + width - 1` of the immediate stand from a place on
pub record Piece : Type 0 where
  pub low : ℕ
  pub width : ℕ
  pub place : ℕ

abbrev pub piece : ℕ → ℕ → ℕ → Piece
piece low width place = record { low = low; width = width; place = place }

abbrev pub immediate_bits : List Piece → ℕ → ℕ
immediate_bits [] x = 0
immediate_bits (p ∷ more) x = x / 2 ^ p.low % 2 ^ p.width * 2 ^ p.place + immediate_bits more x

-- a number below 2 ^ high, and a multiple of 2 ^ low, in these pieces
pub record Immediate : Type 0 where
  pub low : ℕ
  pub high : ℕ
  pub pieces : List Piece

abbrev pub immediate : ℕ → ℕ → List Piece → Immediate
immediate low high pieces = record { low = low; high = high; pieces = pieces }

abbrev pub no_immediate : Immediate
no_immediate = immediate 0 0 []

abbrev pub six_bits : Immediate
six_bits = immediate 0 6 (piece 5 1 12 ∷ piece 0 5 2 ∷ [])

abbrev pub shift_amount : Immediate
shift_amount = immediate 0 5 (piece 0 5 2 ∷ [])

abbrev pub word_offset : Immediate
word_offset = immediate 2 7 (piece 3 3 10 ∷ piece 2 1 6 ∷ piece 6 1 5 ∷ [])

abbrev pub stack_load_offset : Immediate
stack_load_offset = immediate 2 8 (piece 5 1 12 ∷ piece 2 3 4 ∷ piece 6 2 2 ∷ [])

abbrev pub stack_store_offset : Immediate
stack_store_offset = immediate 2 8 (piece 2 4 9 ∷ piece 6 2 7 ∷ [])

abbrev pub above_stack : Immediate
above_stack = immediate 2 10 (piece 4 2 11 ∷ piece 6 4 7 ∷ piece 2 1 6 ∷ piece 3 1 5 ∷ [])

abbrev pub stack_step : Immediate
stack_step = immediate 4 10
    (piece 9 1 12 ∷ piece 4 1 6 ∷ piece 6 1 5 ∷ piece 7 2 3 ∷ piece 5 1 2 ∷ [])

abbrev pub jump_offset : Immediate
jump_offset = immediate 1 12
    (piece 11 1 12 ∷ piece 4 1 11 ∷ piece 8 2 9 ∷ piece 10 1 8 ∷ piece 6 1 7 ∷ piece 7 1 6
    ∷ piece 1 3 3 ∷ piece 5 1 2 ∷ [])

abbrev pub branch_offset : Immediate
branch_offset = immediate 1 9
    (piece 8 1 12 ∷ piece 3 2 10 ∷ piece 6 2 5 ∷ piece 1 2 3 ∷ piece 5 1 2 ∷ [])

-- a number of so many bits, in two's complement
abbrev pub extended : ℕ → ℕ → ℤ
extended n x = if nat_lt x (2 ^ (n - 1)) then pos x else pos x -ℤ pos (2 ^ n)

-- ---- what a half-word of a form may not have: it is reserved then, or another form

pub data Excluded : Type 0 where
  Nothing : Excluded
  FirstZero : Excluded
  SecondZero : Excluded
  ImmediateZero : Excluded
  FirstStackOrImmediateZero : Excluded

abbrev pub IsAllowed : Excluded → ShortOperands → Type 0
IsAllowed Nothing o = Unit {0}
IsAllowed FirstZero o = o.first ≢ 0
IsAllowed SecondZero o = o.second ≢ 0
IsAllowed ImmediateZero o = o.imm ≢ 0
IsAllowed FirstStackOrImmediateZero o = (o.first ≢ 2) × (o.imm ≢ 0)

-- ---- the fields of the rows

abbrev pub on_immediate : ℕ → ℕ → ℕ → ℤ → Fields
on_immediate funct3 rd rs1 n = I (record { imm = n; rs1 = rs1; funct3 = funct3; rd = rd })

abbrev pub on_registers : ℕ → ℕ → ℕ → ℕ → ℕ → Fields
on_registers funct7 funct3 rd rs1 rs2 =
    R (record { funct7 = funct7; rs2 = rs2; rs1 = rs1; funct3 = funct3; rd = rd })

abbrev pub shift : ℕ → ℕ → ℕ → ℕ → Fields
shift funct7 funct3 rd x =
    IShamt (record { funct7 = funct7; shamt = x; rs1 = rd; funct3 = funct3; rd = rd })

abbrev pub store : ℕ → ℕ → ℕ → Fields
store rs2 rs1 x = S (record { imm = pos x; rs2 = rs2; rs1 = rs1; funct3 = 2 })

abbrev pub upper : ℕ → ℤ → Fields
upper rd n = U (record { imm = n *ℤ pos 4096; rd = rd })

abbrev pub branch : ℕ → ℕ → ℤ → Fields
branch funct3 rs1 n = B (record { imm = n; rs2 = 0; rs1 = rs1; funct3 = funct3 })

abbrev pub jump : ℕ → ℤ → Fields
jump rd n = J (record { imm = n; rd = rd })

-- ---- the table

pub record FormEntry : Type 0 where
  pub name : List ℕ
  pub bits : ℕ
  pub first : Register
  pub second : Register
  pub imm : Immediate
  pub excluded : Excluded
  pub row : Row
  pub fields : ℕ → ℕ → ℕ → Fields

abbrev pub entry : List ℕ → ℕ → Register → Register → Immediate → Excluded → Row
    → (ℕ → ℕ → ℕ → Fields) → FormEntry
entry name bits first second imm excluded row fields = record {
  name = name;
  bits = bits;
  first = first;
  second = second;
  imm = imm;
  excluded = excluded;
  row = row;
  fields = fields;
}

-- name, bits, first and second register, immediate, what may not be, row, and the fields of the row
-- by the registers a and b and the immediate x
abbrev pub form_table : ShortForm → FormEntry
form_table Addi4spn = entry (codes "c.addi4spn") 0x0000 (Three 2) Stack above_stack ImmediateZero Row.Addi (λ a b x. on_immediate 0 a b (pos x))
form_table Lw = entry (codes "c.lw") 0x4000 (Three 2) (Three 7) word_offset Nothing Row.Lw (λ a b x. on_immediate 2 a b (pos x))
form_table Sw = entry (codes "c.sw") 0xc000 (Three 2) (Three 7) word_offset Nothing Row.Sw (λ a b x. store a b x)
form_table Addi = entry (codes "c.addi") 0x0001 (Five 7) No six_bits Nothing Row.Addi (λ a b x. on_immediate 0 a a (extended 6 x))
form_table Jal = entry (codes "c.jal") 0x2001 No No jump_offset Nothing Row.Jal (λ a b x. jump 1 (extended 12 x))
form_table Li = entry (codes "c.li") 0x4001 (Five 7) No six_bits Nothing Row.Addi (λ a b x. on_immediate 0 a 0 (extended 6 x))
form_table Addi16sp = entry (codes "c.addi16sp") 0x6101 Stack No stack_step ImmediateZero Row.Addi (λ a b x. on_immediate 0 a a (extended 10 x))
form_table Lui = entry (codes "c.lui") 0x6001 (Five 7) No six_bits FirstStackOrImmediateZero Row.Lui (λ a b x. upper a (extended 6 x))
form_table Srli = entry (codes "c.srli") 0x8001 (Three 7) No shift_amount Nothing Row.Srli (λ a b x. shift 0 5 a x)
form_table Srai = entry (codes "c.srai") 0x8401 (Three 7) No shift_amount Nothing Row.Srai (λ a b x. shift 0x20 5 a x)
form_table Andi = entry (codes "c.andi") 0x8801 (Three 7) No six_bits Nothing Row.Andi (λ a b x. on_immediate 7 a a (extended 6 x))
form_table Sub = entry (codes "c.sub") 0x8c01 (Three 7) (Three 2) no_immediate Nothing Row.Sub (λ a b x. on_registers 0x20 0 a a b)
form_table Xor = entry (codes "c.xor") 0x8c21 (Three 7) (Three 2) no_immediate Nothing Row.Xor (λ a b x. on_registers 0 4 a a b)
form_table Or = entry (codes "c.or") 0x8c41 (Three 7) (Three 2) no_immediate Nothing Row.Or (λ a b x. on_registers 0 6 a a b)
form_table And = entry (codes "c.and") 0x8c61 (Three 7) (Three 2) no_immediate Nothing Row.And (λ a b x. on_registers 0 7 a a b)
form_table J = entry (codes "c.j") 0xa001 No No jump_offset Nothing Row.Jal (λ a b x. jump 0 (extended 12 x))
form_table Beqz = entry (codes "c.beqz") 0xc001 (Three 7) No branch_offset Nothing Row.Beq (λ a b x. branch 0 a (extended 9 x))
form_table Bnez = entry (codes "c.bnez") 0xe001 (Three 7) No branch_offset Nothing Row.Bne (λ a b x. branch 1 a (extended 9 x))
form_table Slli = entry (codes "c.slli") 0x0002 (Five 7) No shift_amount Nothing Row.Slli (λ a b x. shift 0 1 a x)
form_table Lwsp = entry (codes "c.lwsp") 0x4002 (Five 7) Stack stack_load_offset FirstZero Row.Lw (λ a b x. on_immediate 2 a b (pos x))
form_table Jr = entry (codes "c.jr") 0x8002 (Five 7) No no_immediate FirstZero Row.Jalr (λ a b x. on_immediate 0 0 a (pos 0))
form_table Mv = entry (codes "c.mv") 0x8002 (Five 7) (Five 2) no_immediate SecondZero Row.Add (λ a b x. on_registers 0 0 a 0 b)
form_table Ebreak = entry (codes "c.ebreak") 0x9002 No No no_immediate Nothing Row.Ebreak (λ a b x. on_immediate 0 0 0 (pos 1))
form_table Jalr = entry (codes "c.jalr") 0x9002 (Five 7) No no_immediate FirstZero Row.Jalr (λ a b x. on_immediate 0 1 a (pos 0))
form_table Add = entry (codes "c.add") 0x9002 (Five 7) (Five 2) no_immediate SecondZero Row.Add (λ a b x. on_registers 0 0 a a b)
form_table Swsp = entry (codes "c.swsp") 0xc002 (Five 2) Stack stack_store_offset Nothing Row.Sw (λ a b x. store a b x)

-- the half-word h is this form with these operands
pub record IsShort (h : ℕ) (form : ShortForm) (o : ShortOperands) : Type 0 where
  pub first_register : IsRegister (form_table form).first o.first
  pub second_register : IsRegister (form_table form).second o.second
  pub below : o.imm < 2 ^ (form_table form).imm.high
  pub multiple : o.imm % 2 ^ (form_table form).imm.low ≡ 0
  pub allowed : IsAllowed (form_table form).excluded o
  pub encoded : h ≡ (form_table form).bits + register_bits (form_table form).first o.first
      + register_bits (form_table form).second o.second
      + immediate_bits (form_table form).imm.pieces o.imm

-- the fields of the row that a form stands for
abbrev pub expanded_fields : ShortForm → ShortOperands → Fields
expanded_fields form o = (form_table form).fields o.first o.second o.imm
