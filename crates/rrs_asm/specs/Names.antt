-- The names of statements: of instructions, which are those of the table, of pseudo-instructions
-- (RISC-V unprivileged specification, "RISC-V Assembly Programmer's Handbook"), and of directives
-- (GNU assembler manual, "Assembler Directives").
use Rattle.std.specs.Prelude.{◌≡◌, ◌⊎◌, ℕ, Bool, true, false, ◌&&◌, ◌||◌, ◌==◌, List, [], ◌∷◌, ◌++◌, if◌then◌else◌, map, codes}
use Rattle.std.specs.List.{filter, list_any, starts_with}
use Rattle.std.specs.Str.{bytes_eq}
use Rattle.rrs_instruction.specs.Table.{table}
use Rattle.rrs_instruction.specs.Instructions.{row_of}
use Rattle.rrs_instruction.specs.declared.instruction_formats.IType.{IType}
use Rattle.rrs_words.specs.declared.instructions.SystemRow.{SystemRow}
use Rattle.rrs_words.specs.declared.instructions.SystemRow.TheVariants as Row
use Rattle.rrs_words.specs.SystemInstructions.{system_table, csr_number}
use Rattle.rrs_words.specs.declared.layers.LayerInstruction.{LayerInstruction}
use Rattle.rrs_words.specs.AtomicTexts.{atomic_name}
use Rattle.rrs_words.specs.BitInstructions.{bit_table}
use Rattle.rrs_words.specs.Forms.{form_table}
use Rattle.rrs_words.specs.declared.forms.ShortForm.{ShortForm}
use Rattle.rrs_words.specs.declared.forms.ShortInstruction.{ShortInstruction}
use Rattle.rrs_asm.specs.declared.system.Counter.{Counter}
use Rattle.rrs_asm.specs.declared.system.SystemForm.{SystemForm}
use Rattle.rrs_asm.specs.declared.pseudo.Unary.{Unary}
use Rattle.rrs_asm.specs.declared.pseudo.Branch.{Branch}
use Rattle.rrs_asm.specs.declared.pseudo.ZeroBranch.{ZeroBranch}
use Rattle.rrs_asm.specs.declared.pseudo.SwappedBranch.{SwappedBranch}
use Rattle.rrs_asm.specs.declared.pseudo.SwappedComparison.{SwappedComparison}
use Rattle.rrs_asm.specs.declared.pseudo.Load.{Load}
use Rattle.rrs_asm.specs.declared.pseudo.Store.{Store}
use Rattle.rrs_asm.specs.declared.pseudo.Pseudo.{Pseudo}
use Rattle.rrs_asm.specs.declared.statements.Statement.{Statement}

-- ---- pseudo-instructions

abbrev pub unary_name : Unary → List ℕ
unary_name Unary.Mv = codes "mv"
unary_name Unary.Not = codes "not"
unary_name Unary.Neg = codes "neg"
unary_name Unary.Seqz = codes "seqz"
unary_name Unary.Snez = codes "snez"
unary_name Unary.Sltz = codes "sltz"
unary_name Unary.Sgtz = codes "sgtz"
unary_name Unary.ZextB = codes "zext.b"

abbrev pub branch_name : Branch → List ℕ
branch_name Branch.Beq = codes "beq"
branch_name Branch.Bne = codes "bne"
branch_name Branch.Blt = codes "blt"
branch_name Branch.Bge = codes "bge"
branch_name Branch.Bltu = codes "bltu"
branch_name Branch.Bgeu = codes "bgeu"

abbrev pub zero_branch_name : ZeroBranch → List ℕ
zero_branch_name ZeroBranch.Beqz = codes "beqz"
zero_branch_name ZeroBranch.Bnez = codes "bnez"
zero_branch_name ZeroBranch.Blez = codes "blez"
zero_branch_name ZeroBranch.Bgez = codes "bgez"
zero_branch_name ZeroBranch.Bltz = codes "bltz"
zero_branch_name ZeroBranch.Bgtz = codes "bgtz"

abbrev pub swapped_name : SwappedBranch → List ℕ
swapped_name SwappedBranch.Bgt = codes "bgt"
swapped_name SwappedBranch.Ble = codes "ble"
swapped_name SwappedBranch.Bgtu = codes "bgtu"
swapped_name SwappedBranch.Bleu = codes "bleu"

abbrev pub comparison_name : SwappedComparison → List ℕ
comparison_name SwappedComparison.Sgt = codes "sgt"
comparison_name SwappedComparison.Sgtu = codes "sgtu"

abbrev pub load_name : Load → List ℕ
load_name Load.Lb = codes "lb"
load_name Load.Lbu = codes "lbu"
load_name Load.Lh = codes "lh"
load_name Load.Lhu = codes "lhu"
load_name Load.Lw = codes "lw"

abbrev pub store_name : Store → List ℕ
store_name Store.Sb = codes "sb"
store_name Store.Sh = codes "sh"
store_name Store.Sw = codes "sw"

abbrev pub pseudo_name : Pseudo → List ℕ
pseudo_name Pseudo.Nop = codes "nop"
pseudo_name Pseudo.Ret = codes "ret"
pseudo_name Pseudo.Fence = codes "fence"
pseudo_name (Pseudo.Li rd value) = codes "li"
pseudo_name (Pseudo.La rd offset) = codes "la"
pseudo_name (Pseudo.Lla rd offset) = codes "lla"
pseudo_name (Pseudo.From name rd offset) = load_name name
pseudo_name (Pseudo.At name rs rt offset) = store_name name
pseudo_name (Pseudo.Compared name rd rs rt) = comparison_name name
pseudo_name (Pseudo.Jump rt offset) = codes "jump"
pseudo_name (Pseudo.OfOne name rd rs) = unary_name name
pseudo_name (Pseudo.AgainstZero name rs offset) = zero_branch_name name
pseudo_name (Pseudo.Swapped name rs rt offset) = swapped_name name
pseudo_name (Pseudo.Far name rs rt offset) = branch_name name
pseudo_name (Pseudo.FarFromZero name rs offset) = zero_branch_name name
pseudo_name (Pseudo.FarSwapped name rs rt offset) = swapped_name name
pseudo_name (Pseudo.J offset) = codes "j"
pseudo_name (Pseudo.Jal offset) = codes "jal"
pseudo_name (Pseudo.Jr rs) = codes "jr"
pseudo_name (Pseudo.Jalr rs) = codes "jalr"
pseudo_name (Pseudo.Call offset) = codes "call"
pseudo_name (Pseudo.Tail offset) = codes "tail"

-- ---- instructions on CSRs, and those that are alone

abbrev pub counter_name : Counter → List ℕ
counter_name Counter.Cycle = codes "rdcycle"
counter_name Counter.Time = codes "rdtime"
counter_name Counter.Instret = codes "rdinstret"
counter_name Counter.Cycleh = codes "rdcycleh"
counter_name Counter.Timeh = codes "rdtimeh"
counter_name Counter.Instreth = codes "rdinstreth"

abbrev pub counter_number : Counter → ℕ
counter_number Counter.Cycle = 0xc00
counter_number Counter.Time = 0xc01
counter_number Counter.Instret = 0xc02
counter_number Counter.Cycleh = 0xc80
counter_number Counter.Timeh = 0xc81
counter_number Counter.Instreth = 0xc82

-- the row with an immediate in the place of a register
abbrev pub immediate_form : SystemRow → SystemRow
immediate_form Row.Csrrw = Row.Csrrwi
immediate_form Row.Csrrs = Row.Csrrsi
immediate_form Row.Csrrc = Row.Csrrci
immediate_form row = row

-- the name where rd is x0 and is not written
abbrev pub short_name : SystemRow → List ℕ
short_name Row.Csrrw = codes "csrw"
short_name Row.Csrrs = codes "csrs"
short_name Row.Csrrc = codes "csrc"
short_name Row.Csrrwi = codes "csrwi"
short_name Row.Csrrsi = codes "csrsi"
short_name Row.Csrrci = codes "csrci"
short_name row = (system_table row).name

-- The rows by whose names a row goes: its own, and with a number as the operand that of the row
-- with a register.
abbrev pub named_as : SystemRow → List SystemRow
named_as Row.Csrrwi = Row.Csrrwi ∷ Row.Csrrw ∷ []
named_as Row.Csrrsi = Row.Csrrsi ∷ Row.Csrrs ∷ []
named_as Row.Csrrci = Row.Csrrci ∷ Row.Csrrc ∷ []
named_as row = row ∷ []

abbrev pub counters : List Counter
counters =
    Counter.Cycle ∷ Counter.Time ∷ Counter.Instret ∷ Counter.Cycleh ∷ Counter.Timeh
    ∷ Counter.Instreth ∷ []

-- the names of a read, where rs1 is x0: `csrr`, and that of the counter with this number
abbrev pub read_names : SystemRow → ℕ → List (List ℕ)
read_names Row.Csrrs number =
    codes "csrr" ∷ map counter_name (filter (λ c. counter_number c == number) counters)
read_names row number = []

-- the names by which an instruction may be written
abbrev pub system_names : SystemRow → IType → List (List ℕ)
system_names row f =
    map (λ own. (system_table own).name) (named_as row)
    ++ (if f.rd == 0 then map short_name (named_as row) else [])
    ++ (if f.rs1 == 0 then read_names row (csr_number f) else [])

-- the name of a form
abbrev pub system_form_name : SystemForm → List ℕ
system_form_name (SystemForm.Alone row) = (system_table row).name
system_form_name (SystemForm.Whole row) = (system_table row).name
system_form_name (SystemForm.Short row) = short_name row
system_form_name SystemForm.Read = codes "csrr"
system_form_name (SystemForm.Counter counter) = counter_name counter

-- ---- directives

abbrev pub is_one_of : List (List ℕ) → List ℕ → Bool
is_one_of names name = list_any (bytes_eq name) names

-- the directives that lay data out
unfoldable pub data_names : List (List ℕ)
data_names =
    codes ".word" ∷ codes ".long" ∷ codes ".4byte" ∷ codes ".int"
    ∷ codes ".half" ∷ codes ".short" ∷ codes ".2byte" ∷ codes ".hword" ∷ codes ".byte"
    ∷ codes ".dword" ∷ codes ".quad" ∷ codes ".8byte"
    ∷ codes ".ascii" ∷ codes ".asciz" ∷ codes ".string" ∷ codes ".fill"
    ∷ codes ".align" ∷ codes ".p2align" ∷ codes ".balign" ∷ []

-- the directives that lay out so many of a byte
unfoldable pub fill_names : List (List ℕ)
fill_names =
    codes ".space" ∷ codes ".zero" ∷ codes ".skip" ∷ codes ".org" ∷ codes ".comm" ∷ codes ".lcomm" ∷ []

-- the directives that say something of symbols, of the file, of options, or of debugging
unfoldable pub silent_names : List (List ℕ)
silent_names =
    codes ".equ" ∷ codes ".set" ∷ codes ".globl" ∷ codes ".global" ∷ codes ".local"
    ∷ codes ".weak" ∷ codes ".hidden" ∷ codes ".internal" ∷ codes ".protected" ∷ codes ".extern"
    ∷ codes ".type" ∷ codes ".size" ∷ codes ".file" ∷ codes ".ident" ∷ codes ".option"
    ∷ codes ".attribute" ∷ codes ".loc" ∷ []

-- the directives that open a section
unfoldable pub section_names : List (List ℕ)
section_names =
    codes ".text" ∷ codes ".data" ∷ codes ".bss" ∷ codes ".rodata" ∷ codes ".section" ∷ []

-- the directives that put a symbol with so many bytes into the section `COMMON`, whichever is
-- open
unfoldable pub common_names : List (List ℕ)
common_names = codes ".comm" ∷ codes ".lcomm" ∷ []

abbrev pub begins_with_dot : List ℕ → Bool
begins_with_dot [] = false
begins_with_dot (b ∷ bs) = b == 46

-- Those with `.cfi_` speak to debuggers.
abbrev pub is_silent_name : List ℕ → Bool
is_silent_name name =
    begins_with_dot name
    && (starts_with (λ a b. a == b) name (codes ".cfi_") || is_one_of silent_names name)

abbrev pub is_section_name : List ℕ → Bool
is_section_name name = begins_with_dot name && is_one_of section_names name

abbrev pub is_common_name : List ℕ → Bool
is_common_name name = begins_with_dot name && is_one_of common_names name

-- ---- statements

-- an instruction of a layer is one of this name
abbrev pub IsLayerNamed : List ℕ → LayerInstruction → Type 0
IsLayerNamed name (LayerInstruction.System i) =
    is_one_of (system_names i.row i.fields) name ≡ true
IsLayerNamed name (LayerInstruction.Atomic i) = atomic_name i.row i.fields.funct7 ≡ name
IsLayerNamed name (LayerInstruction.Bits i) = (bit_table i.row).name ≡ name

-- c.nop, which is c.addi x0, 0
abbrev pub short_nop : ShortInstruction
short_nop =
    record { form = ShortForm.Addi; operands = record { first = 0; second = 0; imm = 0 } }

-- a compressed instruction is one of this name: that of its form, or `c.nop`
abbrev pub IsShortNamed : List ℕ → ShortInstruction → Type 0
IsShortNamed name i =
    ((form_table i.form).name ≡ name) ⊎ ((codes "c.nop" ≡ name) × (i ≡ short_nop))

-- a statement is one of this name
abbrev pub IsNamed : List ℕ → Statement → Type 0
IsNamed name (Statement.Instruction i) = (table (row_of i)).name ≡ name
IsNamed name (Statement.Layer i) = IsLayerNamed name i
IsNamed name (Statement.Short i) = IsShortNamed name i
IsNamed name (Statement.Pseudo pseudo) = pseudo_name pseudo ≡ name
IsNamed name (Statement.Data count) = is_one_of data_names name ≡ true
IsNamed name (Statement.Fill count byte) = is_one_of fill_names name ≡ true
IsNamed name Statement.Unimp = codes "unimp" ≡ name
