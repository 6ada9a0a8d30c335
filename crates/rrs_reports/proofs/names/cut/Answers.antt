use Rattle.std.proofs.Common.{sym, arith}
use Rattle.std.proofs.lemmas.List.{length-take, take_all}
use Rattle.rrs_reports.proofs.names.cut.Goals as goal

pub slice_bounds-result-end : goal.slice_bounds-result-end
slice_bounds-result-end c = omega (arith, length-take 1024 c.args.name.now)

pub returns-else-name-gt-SHOWN_BYTES-clause-bytes : goal.returns-else-name-gt-SHOWN_BYTES-clause-bytes
returns-else-name-gt-SHOWN_BYTES-clause-bytes c = sym (take_all 1024 c.args.name.now (omega arith))
