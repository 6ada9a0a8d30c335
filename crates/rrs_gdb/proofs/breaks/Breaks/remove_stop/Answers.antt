use Rattle.std.proofs.Common.{rules}
use Rattle.rrs_gdb.proofs.EntryLemmas.{without_entry}
use Rattle.rrs_gdb.proofs.breaks.Breaks.remove_stop.Goals as goal

pub returns-clause-removed : goal.returns-clause-removed
returns-clause-removed c = without_entry _ c.args.address _ (λ x b g k. search rules) _ _ c.retain.ensures.filtered
