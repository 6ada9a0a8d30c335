use Rattle.std.proofs.Common.{◌≡◌, ◌+◌, length, count_by, arith}
use Rattle.std.proofs.lemmas.Grind.{common_steps}
use Rattle.std.proofs.lemmas.List.Splits.{length-slice_split}
use Rattle.rrs_asm_lines.specs.Lines.{is_line_feed, lines}
use Rattle.rrs_asm_macros.proofs.blocks.height.Goals as goal

pub returns : goal.returns
returns c =
    let counted : length (lines c.args.text.now) ≡ count_by is_line_feed c.args.text.now + 1 = length-slice_split is_line_feed c.args.text.now in
    grind (arith, common_steps, counted, c.loop-byte.invariant)
