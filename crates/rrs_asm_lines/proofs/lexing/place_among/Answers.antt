use Rattle.std.proofs.Common.{◌≡◌, true, false, refl, sym, ◌∙◌}
use Rattle.std.specs.Str.{bytes_eq}
use Rattle.rrs_asm_lines.proofs.Cutting.{place-first}
use Rattle.rrs_asm_lines.proofs.lexing.place_among.Goals as goal

pub loop-index-preserved : goal.loop-index-preserved
loop-index-preserved c =
    let other : bytes_eq c.split_word.result.0.now c.args.wanted.now ≡ false = sym c.if-eq.ensures in
    c.loop-index.invariant ∙ place-first c.args.wanted.now c.args.words.now c.loop-index.rest.now _ _ c.loop-index.index c.loop-index-test.true c.split_word.ensures.word c.split_word.ensures.behind c.if-is_empty.ensures ∙ (rw other refl)

pub returns-then-eq : goal.returns-then-eq
returns-then-eq c =
    let same : bytes_eq c.split_word.result.0.now c.args.wanted.now ≡ true = sym c.if-eq.ensures in
    sym (c.loop-index.invariant ∙ place-first c.args.wanted.now c.args.words.now c.loop-index.rest.now _ _ c.loop-index.index c.loop-index-test.true c.split_word.ensures.word c.split_word.ensures.behind c.if-is_empty.ensures ∙ (rw same refl))
