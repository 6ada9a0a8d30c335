-- Compressed instructions, as C has them (RISC-V unprivileged specification, "C" Extension for
-- Compressed Instructions): their texts, and the words that they stand for.
use Rattle.std.specs.Prelude.{◌≡◌, ℕ, Bool, true, false, ◌==◌, ◌%◌, ◌^◌, ◌≤◌, ◌&&◌, not, List, length}
use Rattle.rrs_lib.specs.Table.{Decodes}
use Rattle.rrs_words.specs.declared.csrs.HartProfile.{HartProfile}
use Rattle.rrs_words.specs.declared.forms.ShortForm.{ShortForm}
use Rattle.rrs_words.specs.declared.forms.ShortOperands.{ShortOperands}
use Rattle.rrs_words.specs.Forms.{IsShort, form_table, expanded_fields}
use Rattle.rrs_words.specs.FormTexts.{short_text}
use Rattle.rrs_c.specs.Buffers.{with_text, Disassembles}

-- The text of a half-word at a pc is put into a buffer, and its length is told. One that is no
-- compressed instruction has none: length 0.
pub record PutsShort (half pc : ℕ) (old new : List ℕ) (told : ℕ) : Type 0 where
  pub of_form : (form : ShortForm) (o : ShortOperands) → IsShort half form o
      → (told ≡ length (short_text form o pc)) × (new ≡ with_text (short_text form o pc) old)
  pub outside : ((form : ShortForm) (o : ShortOperands) → ¬ IsShort half form o)
      → (told ≡ 0) × (new ≡ old)
  pub bound : told ≤ 88

-- whether the hart of a profile executes the first half-word of four bytes: with extension C, where
-- its low bits are not 11
abbrev pub is_short : HartProfile → ℕ → Bool
is_short p word = p.compressed && not (word % 4 == 3)

-- The text of what the hart of a profile executes of the four bytes at a pc is put into a buffer, and
-- its length is told.
pub record DisassemblesIn (p : HartProfile) (word pc : ℕ) (old new : List ℕ) (told : ℕ) : Type 0 where
  pub short : is_short p word ≡ true → PutsShort (word % 2 ^ 16) pc old new told
  pub whole : is_short p word ≡ false → Disassembles word pc old new told

-- The word of 32 bits that a half-word stands for is told, and 0 where there is none.
pub record Expands (half told : ℕ) : Type 0 where
  pub of_form : (form : ShortForm) (o : ShortOperands) → IsShort half form o
      → (word : ℕ) → Decodes word (form_table form).row (expanded_fields form o) → told ≡ word
  pub of_none : (form : ShortForm) (o : ShortOperands) → IsShort half form o
      → ((word : ℕ) → ¬ Decodes word (form_table form).row (expanded_fields form o)) → told ≡ 0
  pub outside : ((form : ShortForm) (o : ShortOperands) → ¬ IsShort half form o) → told ≡ 0
