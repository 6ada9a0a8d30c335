use Rattle.rrs_gdb.proofs.WatchLemmas.{watched_if}
use Rattle.std.proofs.Common.{arith}
use Rattle.rrs_gdb.proofs.breaks.Watch.is_watched.Goals as goal

pub returns-clause-yes : goal.returns-clause-yes
returns-clause-yes c =
    watched_if c.args.self.now c.args.address c.args.count c.from-start.result c.from-from.result
    (c.from-start.ensures) (c.from-from.ensures) (omega arith) (omega arith) (omega arith)
