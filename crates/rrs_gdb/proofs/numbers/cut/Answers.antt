-- The first of these bytes, or none.
use Rattle.std.proofs.Common.{◌≡◌, suc, ◌+◌, ◌-◌, length, drop, slice_index, ap, ◌∙◌, arith, take_all}
use Rattle.std.proofs.lemmas.List.{length-drop}
use Rattle.rrs_gdb.proofs.FieldLemmas.{cut_there, cut_nowhere}
use Rattle.rrs_gdb.proofs.numbers.cut.Goals as goal

pub returns-then-byte-at-clause-parts : goal.returns-then-byte-at-clause-parts
returns-then-byte-at-clause-parts c =
    let bytes = c.args.bytes.now in
    let i = c.loop-index.index in
    let there : slice_index bytes i ≡ c.args.at = c.if-byte-at.true in
    let parts = cut_there c.args.at bytes i c.loop-index-test.true there c.loop-index.invariant in
    let rest = drop (i + 1) bytes in
    let next : i + 1 ≡ suc i = omega arith in (
      parts.0,
      take_all (length bytes - (i + 1)) rest (omega (arith, length-drop (i + 1) bytes))
          ∙ ap (λ k. drop k bytes) next ∙ parts.1,
    )

pub returns-clause-parts : goal.returns-clause-parts
returns-clause-parts c = cut_nowhere c.args.at c.args.bytes.now (λ j h. c.loop-index.invariant j (omega (arith, h, c.loop-index-test.false)))
