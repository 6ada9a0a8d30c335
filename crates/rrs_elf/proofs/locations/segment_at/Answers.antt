use Rattle.std.proofs.Common.{◌≡◌, Some, sym, arith}
use Rattle.rrs_elf.specs.Symbols.{segment_below}
use Rattle.rrs_elf.proofs.SymbolLists.{segment_found}
use Rattle.rrs_elf.proofs.locations.segment_at.Goals as goal

pub returns-then-segment_has : goal.returns-then-segment_has
returns-then-segment_has c =
    let file = c.args.file.now in
    let found : segment_below file c.args.address c.read_header_count-index-end.result ≡ Some c.loop-index.index =
    segment_found file c.args.address _ c.loop-index.index c.loop-index-test.true c.loop-index.invariant (sym c.if-segment_has.ensures) in
    let count = c.read_header_count-index-end.ensures in
    grind (arith, found, count)
