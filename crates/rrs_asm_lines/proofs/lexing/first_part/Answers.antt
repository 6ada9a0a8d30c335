use Rattle.std.proofs.Common.{◌+◌, sym, ◌∙◌, arith}
use Rattle.std.proofs.lemmas.List.{take_rest}
use Rattle.rrs_asm_lines.proofs.Cutting.{parts-other-at}
use Rattle.rrs_asm_lines.proofs.lexing.first_part.Goals as goal

pub loop-index-preserved : goal.loop-index-preserved
loop-index-preserved c =
    c.loop-index.invariant
    ∙ parts-other-at c.args.line.now c.loop-index.index c.loop-index.place c.behind-place.result _ (omega arith) (take_rest c.args.line.now (c.loop-index.index + 1)) (sym c.in-Other.ensures) c.behind-place.ensures
