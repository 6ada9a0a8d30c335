-- The step's accesses, of the memory that is traced and so of the one that is lent.
use Rattle.std.proofs.Common.{None}
use Rattle.rrs_trace.proofs.TracedAccesses.{inner_exactly, still_lent, step_kept}
use Rattle.rrs_trace.proofs.retired.trace_step.Goals as goal

pub returns-clause-insn : goal.returns-clause-insn
returns-clause-insn g c = λ last.
    (step_kept _ _ _ _ c.requires.first c.requires.no_word c.requires.no_access _
    (c.step_traced.ensures.accesses last)).0

pub returns-clause-access : goal.returns-clause-access
returns-clause-access g c = λ last.
    (step_kept _ _ _ _ c.requires.first c.requires.no_word c.requires.no_access _
    (c.step_traced.ensures.accesses last)).1

pub returns-clause-accesses : goal.returns-clause-accesses
returns-clause-accesses g c = λ last. inner_exactly _ _ _ _ _ (c.step_traced.ensures.accesses last)

pub returns-clause-same_memory : goal.returns-clause-same_memory
returns-clause-same_memory g c =
    still_lent g.M.Memory.reads g.M.Memory.writes _ _ _ (c.step_traced.ensures.accesses None)
