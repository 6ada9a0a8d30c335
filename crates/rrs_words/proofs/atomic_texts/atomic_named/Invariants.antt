-- No instruction with lower bits has the name.
use Rattle.std.proofs.Common.{◌≡◌, ◌≢◌, ◌<◌, ◌/◌, ℕ}
use Rattle.rrs_words.specs.declared.atomics.AtomicRow.{AtomicRow}
use Rattle.rrs_words.specs.AtomicInstructions.{atomic_table}
use Rattle.rrs_words.specs.AtomicTexts.{atomic_name}
use Rattle.rrs_words.proofs.atomic_texts.atomic_named.Given as goal

abbrev pub invariant-loop-funct7 : goal.invariant-loop-funct7
invariant-loop-funct7 l = (row : AtomicRow) (n : ℕ) → n < l.funct7 → n / 4 ≡ (atomic_table row).funct5 → atomic_name row n ≢ l.fn.name
