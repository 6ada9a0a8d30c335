use Rattle.std.proofs.Common.{refl}
use Rattle.rrs_gdb.proofs.ChangeLemmas.{done_by, memory_same, sets_bytes}
use Rattle.rrs_gdb.proofs.session.change_memory.Goals as goal

pub returns-clause-kept : goal.returns-clause-kept
returns-clause-kept g c = record {
  registers_kept = refl;
  pc_kept = refl;
  last_kept = refl;
  writable_kept = c.write_memory-is_done.ensures.writable_kept;
}

pub returns-clause-done : goal.returns-clause-done
returns-clause-done g c =
    let wrote = c.write_memory-is_done.ensures in
    done_by _ _ _ _ _ c.outcome_of.ensures.same c.outcome_of.ensures.done
    (memory_same c.write_memory-is_done.result c.args.executor.now.hart_state.now _ _ _ _ wrote.kept wrote.writable_kept)

pub returns-clause-set : goal.returns-clause-set
returns-clause-set g c = λ long some.
    let wrote = c.write_memory-is_done.ensures in
    sets_bytes c.write_memory-is_done.result _ _ _ _ _ wrote.written c.outcome_of.ensures.refused wrote.refused
