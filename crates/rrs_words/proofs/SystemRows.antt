-- A word is one instruction of the table at most: its places say which.
use Rattle.std.proofs.Common.{◌≡◌, ℕ, ◌+◌, ◌*◌, ◌/◌, ◌%◌, ◌^◌, ◌<◌, ◌==◌, if◌then◌else◌, Option, Some, None, refl, sym, subst, ap, ◌∙◌, lit<}
use Rattle.std.proofs.lemmas.Option.{same_Some}
use Rattle.rrs_instruction.specs.declared.instruction_formats.IType.{IType}
use Rattle.rrs_instruction.specs.Words.{floor_mod}
use Rattle.rrs_instruction.specs.Encodings.{Fields, I}
use Rattle.rrs_instruction.proofs.Places.{places-I, same_fields_of}
use Rattle.rrs_words.specs.declared.instructions.SystemRow.{SystemRow}
use Rattle.rrs_words.specs.declared.instructions.SystemRow.TheVariants.{Csrrw, Csrrs, Csrrc, Csrrwi, Csrrsi, Csrrci, Mret, Wfi, FenceI}
use Rattle.rrs_words.specs.SystemInstructions.{system_table, IsSystem, HasPlaces}

-- ---- the row of a word, by its opcode and funct3

abbrev csr_row : ℕ → Option SystemRow
csr_row funct3 =
    if funct3 == 1 then Some Csrrw
    else (if funct3 == 2 then Some Csrrs
    else (if funct3 == 3 then Some Csrrc
    else (if funct3 == 5 then Some Csrrwi
    else (if funct3 == 6 then Some Csrrsi
    else (if funct3 == 7 then Some Csrrci else None)))))

abbrev privileged_row : ℕ → Option SystemRow
privileged_row w =
    if w == 0x30200073 then Some Mret else (if w == 0x10500073 then Some Wfi else None)

abbrev system_row : ℕ → ℕ → Option SystemRow
system_row w funct3 = if funct3 == 0 then privileged_row w else csr_row funct3

abbrev fence_row : ℕ → Option SystemRow
fence_row funct3 = if funct3 == 1 then Some FenceI else None

abbrev row_by : ℕ → ℕ → ℕ → Option SystemRow
row_by w opcode funct3 =
    if opcode == 0x73 then system_row w funct3
    else (if opcode == 0x0f then fence_row funct3 else None)

abbrev row_of_word : ℕ → Option SystemRow
row_of_word w = row_by w (w % 2 ^ 7) (w / 2 ^ 12 % 2 ^ 3)

-- ---- from a row to the places

small : (row : SystemRow) → (system_table row).opcode < 128
small FenceI = lit< tt
small _ = lit< tt

-- the opcode and funct3 of a word of the table
pub opcode_of : (w : ℕ) (row : SystemRow) (f : IType) → IsSystem w row f → w % 128 ≡ (system_table row).opcode
opcode_of w row f is = (places-I w (system_table row).opcode f (small row) is.in_range is.encoded).0

pub funct3_of : (w : ℕ) (row : SystemRow) (f : IType) → IsSystem w row f → w / 4096 % 8 ≡ (system_table row).funct3
funct3_of w row f is = sym (places-I w (system_table row).opcode f (small row) is.in_range is.encoded).2 ∙ is.funct3

by_both : (w : ℕ) (row : SystemRow) (f : IType) → IsSystem w row f → row_of_word w ≡ row_by w (system_table row).opcode (system_table row).funct3
by_both w row f is = λ k. row_by w (opcode_of w row f is k) (funct3_of w row f is k)

-- the word of mret and of wfi
mret_word : (w : ℕ) (f : IType) → IsSystem w Mret f → w ≡ 0x30200073
mret_word w f is =
    is.encoded
    ∙ (λ k. 0x73 + is.operands.0 k * 2 ^ 7 + is.funct3 k * 2 ^ 12 + is.operands.1 k * 2 ^ 15 + floor_mod (is.operands.2 k) (2 ^ 12) * 2 ^ 20)

wfi_word : (w : ℕ) (f : IType) → IsSystem w Wfi f → w ≡ 0x10500073
wfi_word w f is =
    is.encoded
    ∙ (λ k. 0x73 + is.operands.0 k * 2 ^ 7 + is.funct3 k * 2 ^ 12 + is.operands.1 k * 2 ^ 15 + floor_mod (is.operands.2 k) (2 ^ 12) * 2 ^ 20)

-- so it has the places of its row
pub places_of : (w : ℕ) (row : SystemRow) (f : IType) → IsSystem w row f → HasPlaces w row
places_of w Csrrw f is = (opcode_of w Csrrw f is, funct3_of w Csrrw f is)
places_of w Csrrs f is = (opcode_of w Csrrs f is, funct3_of w Csrrs f is)
places_of w Csrrc f is = (opcode_of w Csrrc f is, funct3_of w Csrrc f is)
places_of w Csrrwi f is = (opcode_of w Csrrwi f is, funct3_of w Csrrwi f is)
places_of w Csrrsi f is = (opcode_of w Csrrsi f is, funct3_of w Csrrsi f is)
places_of w Csrrci f is = (opcode_of w Csrrci f is, funct3_of w Csrrci f is)
places_of w Mret f is = mret_word w f is
places_of w Wfi f is = wfi_word w f is
places_of w FenceI f is = (opcode_of w FenceI f is, funct3_of w FenceI f is)

row_of_word-is : (w : ℕ) (row : SystemRow) (f : IType) → IsSystem w row f → row_of_word w ≡ Some row
row_of_word-is w Csrrw f is = by_both w Csrrw f is
row_of_word-is w Csrrs f is = by_both w Csrrs f is
row_of_word-is w Csrrc f is = by_both w Csrrc f is
row_of_word-is w Csrrwi f is = by_both w Csrrwi f is
row_of_word-is w Csrrsi f is = by_both w Csrrsi f is
row_of_word-is w Csrrci f is = by_both w Csrrci f is
row_of_word-is w Mret f is = by_both w Mret f is ∙ ap privileged_row (mret_word w f is)
row_of_word-is w Wfi f is = by_both w Wfi f is ∙ ap privileged_row (wfi_word w f is)
row_of_word-is w FenceI f is = by_both w FenceI f is

-- ---- one row at most

-- the fields in a format I
abbrev fields_in_I : IType → Fields → IType
fields_in_I other (I f) = f
fields_in_I other _ = other

pub system-unique : (w : ℕ) (row row' : SystemRow) (f f' : IType) → IsSystem w row f → IsSystem w row' f' → (row ≡ row') × (f ≡ f')
system-unique w row row' f f' is is' =
    let rows = same_Some _ _ (sym (row_of_word-is w row f is) ∙ row_of_word-is w row' f' is') in
    let moved : IsSystem w row f' = subst (λ x. IsSystem w x f') (sym rows) is' in
    let fields =
    same_fields_of w (system_table row).opcode (I f) (I f') (small row) refl is.in_range moved.in_range is.encoded moved.encoded in
    (rows, ap (fields_in_I f) fields)
