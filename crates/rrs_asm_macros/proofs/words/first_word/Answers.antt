use Rattle.std.proofs.Common.{◌≡◌, ℕ, false, not, List, take, All, subst, arith}
use Rattle.std.proofs.lemmas.Grind.{common_steps}
use Rattle.std.proofs.lemmas.List.{take_rest}
use Rattle.std.proofs.lemmas.List.Elements.{All-more}
use Rattle.std.proofs.lemmas.List.Splits.{slice_split_none}
use Rattle.rrs_asm_lines.specs.Lines.{is_in_word}
use Rattle.rrs_asm_macros.proofs.Cutting.{words-at}
use Rattle.rrs_asm_macros.proofs.words.first_word.Goals as goal

pub returns-then-not-is_in_word-clause-words : goal.returns-then-not-is_in_word-clause-words
returns-then-not-is_in_word-clause-words c =
    rw take_rest (words-at c.args.text.now c.loop-index.index c.loop-index-test.true c.loop-index.invariant _ c.is_in_word.ensures c.if-not-is_in_word.true)

pub loop-index-preserved : goal.loop-index-preserved
loop-index-preserved c =
    All-more (λ b. not (is_in_word b) ≡ false) c.args.text.now c.loop-index.index 0 c.loop-index-test.true c.loop-index.invariant (rw (← c.is_in_word.ensures, c.if-not-is_in_word.false))

pub returns-clause-words : goal.returns-clause-words
returns-clause-words c =
    let whole : take c.loop-index.index c.args.text.now ≡ c.args.text.now = grind (arith, common_steps) in
    let P : List ℕ → Type 0 = λ bs. All (λ b. not (is_in_word b) ≡ false) bs in
    slice_split_none (λ b. not (is_in_word b)) c.args.text.now (subst P whole c.loop-index.invariant)
