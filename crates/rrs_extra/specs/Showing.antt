-- What the text of an instruction shows of its fields: register numbers, and the immediate or the
-- shift amount as the field has it, also where the text has its sum with the address. funct3 and
-- funct7 are not shown, and `fence`, `ecall` and `ebreak` show none of their fields.
use Rattle.std.specs.Prelude.{◌≡◌, ◌⊎◌, ℕ, List, [], ◌∷◌, ℤ, pos, Option, Some, Result, Ok, String, string_bytes}
use Rattle.std.specs.declared.alloc.AllocError.{AllocError}
use Rattle.std.specs.declared.alloc.Global.{Global}
use Rattle.rrs_lib.specs.Encodings.{Fields, R, I, IShamt, S, B, U, J}
use Rattle.rrs_lib.specs.Table.{Row, table, Action, NoEffect, CallEnvironment, Break, Decodes}

-- the fields of each format that texts show
abbrev pub shown : Fields → List ℤ
shown (R f) = pos f.rd ∷ pos f.rs1 ∷ pos f.rs2 ∷ []
shown (I f) = pos f.rd ∷ pos f.rs1 ∷ f.imm ∷ []
shown (IShamt f) = pos f.rd ∷ pos f.rs1 ∷ pos f.shamt ∷ []
shown (S f) = pos f.rs2 ∷ pos f.rs1 ∷ f.imm ∷ []
shown (B f) = pos f.rs1 ∷ pos f.rs2 ∷ f.imm ∷ []
shown (U f) = pos f.rd ∷ f.imm ∷ []
shown (J f) = pos f.rd ∷ f.imm ∷ []

-- what the texts of rows that do this show
abbrev pub shown_by : Action → Fields → List ℤ
shown_by NoEffect f = []
shown_by CallEnvironment f = []
shown_by Break f = []
shown_by _ f = shown f

-- what the texts of a row show
abbrev pub shown_of : Row → Fields → List ℤ
shown_of row f = shown_by (table row).action f

-- two words are of one row, and what its texts show of their fields is equal
pub record ShowAlike (first second : ℕ) : Type 0 where
  pub row : Row
  pub first_fields : Fields
  pub second_fields : Fields
  pub is_first : Decodes first row first_fields
  pub is_second : Decodes second row second_fields
  pub same : shown_of row first_fields ≡ shown_of row second_fields

-- a word of the row fence, whatever its other fields
abbrev pub IsFence : ℕ → Type 0
IsFence w = (f : Fields) × Decodes w Row.Fence f

-- one word, or two words of fence
abbrev pub AreOneOrFences : ℕ → ℕ → Type 0
AreOneOrFences first second = (first ≡ second) ⊎ (IsFence first × IsFence second)

-- the answer for a word: no text, where it is of no row, or its text, or out of memory
abbrev pub Asked : Type 0
Asked = Option (Result (String Global) AllocError)

-- where both answers are texts, P holds of their bytes
abbrev pub IfBothTexts : Asked → Asked → (List ℕ → List ℕ → Type 0) → Type 0
IfBothTexts (Some (Ok a)) (Some (Ok b)) P = P (string_bytes a) (string_bytes b)
IfBothTexts _ _ P = Unit {0}
