use Rattle.std.proofs.Common.{arith}
use Rattle.rrs_gdb.proofs.SessionLemmas.{texted_if, error_if}
use Rattle.rrs_gdb.proofs.session.push_done.Goals as goal

pub returns-then-is_done-clause-done : goal.returns-then-is_done-clause-done
returns-then-is_done-clause-done c = texted_if c.push_text.result _ _ 79 _ c.args.is_done (omega arith) c.push_text.ensures

pub returns-clause-refused : goal.returns-clause-refused
returns-clause-refused c = error_if c.push_text-2.result _ _ c.args.error.now c.args.is_done c.requires c.push_text-2.ensures
