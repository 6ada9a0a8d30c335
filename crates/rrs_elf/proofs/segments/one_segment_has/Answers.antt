use Rattle.std.proofs.Common.{◌≡◌, sym, true, arith}
use Rattle.rrs_elf.specs.Refusals.{one_has_address}
use Rattle.rrs_elf.proofs.Accepted.{one_has}
use Rattle.rrs_elf.proofs.segments.one_segment_has.Goals as goal

pub returns-then-segment_has : goal.returns-then-segment_has
returns-then-segment_has c =
    let has : one_has_address c.args.file.now c.read_header_count-index-end.result c.args.address ≡ true =
    one_has _ _ _ c.loop-index.index c.loop-index-test.true (sym c.if-segment_has.ensures) in
    let count = c.read_header_count-index-end.ensures in
    grind (arith, has, count)
