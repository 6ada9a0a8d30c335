-- At a word whose low bits are 11, and in which no layer takes part, the step of a hart is the kit's.
use Rattle.std.proofs.Common.{◌≡◌, ℕ, ◌%◌, ◌<◌, ◌^◌, Some, Ok, Err, sym, subst, ap, ◌∙◌}
use Rattle.std.proofs.lemmas.Option.{same_Some}
use Rattle.rrs_memory.specs.Bytes.{little_endian}
use Rattle.rrs_instruction.specs.Encodings.{Fields}
use Rattle.rrs_instruction.specs.Table.{Row, Decodes, IsIllegal}
use Rattle.rrs_lib.specs.declared.instruction_executor.InstructionException.TheVariants.{IllegalInstruction}
use Rattle.rrs_lib.specs.Steps.{Step, StepAnswer, Illegal, Legal, cleared}
use Rattle.rrs_words.specs.declared.csrs.HartProfile.{HartProfile}
use Rattle.rrs_hart.specs.declared.halves.Encoding.{Encoding}
use Rattle.rrs_hart.specs.declared.halves.Encoding.TheVariants.{Long}
use Rattle.rrs_hart.specs.Atomics.{AtomicOutcome}
use Rattle.rrs_hart.specs.Halves.{bytes_of, bits_of, fetched, StandsFor, IsNoRow, IsLayers, RowStep, AsRow, AsBytes, HalvesStep, NotFetched, NoInstruction, ARow, ALayer}
use Rattle.rrs_hart.specs.Harts.{Hart, IsOfProfile, IsKitsWord, HartStep, OfKit, OfLayer, ByBytes, OfHalves}
use Rattle.rrs_hart.proofs.HalvesSteps.{same_Ok, not_both}
use Rattle.rrs_hart.proofs.HartSteps.{word_stands}
use Rattle.rrs_hart.proofs.WholeWords.{word_fetched, advanced_by_four}

-- ---- by half-words

abbrev KitsToo : Hart → Hart → StepAnswer → Type 0
KitsToo s t answer = Step s.state t.state answer × (t.reserved ≡ s.reserved)

module _ (p : HartProfile) (s t : Hart) (answer : StepAnswer) (w : ℕ) (inside : s.state.pc < 2 ^ 32) (at : IsKitsWord p s.state w) where
  there : (s.state.pc % 4 ≡ 0) × (little_endian s.state.bytes s.state.pc 4 ≡ Some w)
  there = word_stands s.state w at.fetched

  whole : fetched s.state.bytes s.state.pc ≡ Ok (Long w)
  whole = word_fetched s.state.bytes s.state.pc w there.0 inside there.1 at.low

  row_too : (row : Row) (f : Fields) → Decodes w row f → RowStep p 4 row f (cleared s.state) t.state answer → Step s.state t.state answer
  row_too row f decodes (AsRow none sized) =
      Legal w row f sized.u sized.a there.0 there.1 decodes sized.executes
      (sized.after ∙ advanced_by_four row f (cleared s.state) sized.u sized.a sized.executes) sized.answers
  row_too row f decodes (AsBytes a o is after answers) = absurd (at.no_bytes row f decodes a o is)

  kits_by_halves : HalvesStep p s t answer → KitsToo s t answer
  kits_by_halves (NotFetched e is left) = absurd (not_both (Long w) e _ whole is)
  kits_by_halves (NoInstruction x is illegal left) =
      let same : x ≡ Long w = same_Ok x (Long w) _ is whole in
      let outside : IsIllegal w = subst IsNoRow same illegal.no_row in (
        Illegal w there.0 there.1 outside (ap (λ (o : AtomicOutcome). o.after) left)
            (ap (λ (o : AtomicOutcome). o.answer) left ∙ ap (λ (y : Encoding). Err (IllegalInstruction s.state.pc (bits_of y))) same),
        ap (λ (o : AtomicOutcome). o.reservation) left,
      )
  kits_by_halves (ARow x row f is stands step kept) =
      let same : x ≡ Long w = same_Ok x (Long w) _ is whole in
      let decodes : Decodes w row f = subst (λ y. StandsFor y row f) same stands in
      (row_too row f decodes (subst (λ y. RowStep p (bytes_of y) row f (cleared s.state) t.state answer) same step), kept)
  kits_by_halves (ALayer x i is none layers left) =
      let same : x ≡ Long w = same_Ok x (Long w) _ is whole in
      absurd (at.no_layer (subst IsNoRow same none) i (subst (λ y. IsLayers p y i) same layers))

-- ---- by words or half-words

pub kits_at_word : (p : HartProfile) (s t : Hart) (answer : StepAnswer) (w : ℕ) → s.state.pc < 2 ^ 32 → IsKitsWord p s.state w
    → HartStep p s t answer → KitsToo s t answer
kits_at_word p s t answer w inside at (OfKit kits step kept) = (step, kept)
kits_at_word p s t answer w inside at (OfLayer v i is left) =
    let same : v ≡ w = same_Some _ _ (sym is.fetched ∙ at.fetched) in
    absurd (at.no_layer (subst IsIllegal same is.outside) i (subst (λ x. IsOfProfile p x i) same is.is))
kits_at_word p s t answer w inside at (ByBytes v row f a o is left) =
    let same : v ≡ w = same_Some _ _ (sym is.fetched ∙ at.fetched) in
    absurd (at.no_bytes row f (subst (λ x. Decodes x row f) same is.decoded) a o (record { allowed = is.allowed; refused = is.refused; carried = is.carried }))
kits_at_word p s t answer w inside at (OfHalves halves step) = kits_by_halves p s t answer w inside at step
