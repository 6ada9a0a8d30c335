use Rattle.std.proofs.Common.{◌≡◌, ℕ, List, take, count_by, arith, subst}
use Rattle.std.proofs.lemmas.Grind.{common_steps}
use Rattle.std.proofs.lemmas.List.{take_rest}
use Rattle.rrs_asm_lines.specs.Lines.{is_line_feed}
use Rattle.rrs_asm_lines.proofs.Cutting.{lines-at, lines-none}
use Rattle.rrs_asm_lines.proofs.lexing.first_line.Goals as goal

pub returns-then-byte-eq10-clause-lines : goal.returns-then-byte-eq10-clause-lines
returns-then-byte-eq10-clause-lines c =
    rw take_rest (lines-at c.args.source.now c.loop-index.index c.loop-index-test.true c.loop-index.invariant c.if-byte-eq10.true)

pub returns-clause-lines : goal.returns-clause-lines
returns-clause-lines c =
    let whole : take c.loop-index.index c.args.source.now ≡ c.args.source.now = grind (arith, common_steps) in
    let P : List ℕ → Type 0 = λ bs. count_by is_line_feed bs ≡ 0 in
    lines-none c.args.source.now (subst P whole c.loop-index.invariant)
