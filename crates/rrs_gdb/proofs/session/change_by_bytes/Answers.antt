use Rattle.rrs_gdb.proofs.ChangeLemmas.{sets_memory}
use Rattle.rrs_gdb.proofs.session.change_by_bytes.Goals as goal

pub returns-in-Some-clause-kept : goal.returns-in-Some-clause-kept
returns-in-Some-clause-kept g c = c.change_memory.ensures.kept

pub returns-in-Some-clause-done : goal.returns-in-Some-clause-done
returns-in-Some-clause-done g c = c.change_memory.ensures.done

pub returns-in-Some-clause-set : goal.returns-in-Some-clause-set
returns-in-Some-clause-set g c =
    let found = c.in-Some.ensures.found in
    sets_memory c.args.text.now c.in-Some.bytes.now _ _ _ _ _ _ found.1 found.2 found.3 found.0
    c.change_memory.ensures.set c.change_memory.ensures.none c.change_memory.ensures.refused
