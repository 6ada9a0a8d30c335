use Rattle.std.proofs.Common.{refl, sym, subst, List, append-nil}
use Rattle.rrs_lib.specs.declared.MemAccessSize.TheVariants.{Word}
use Rattle.rrs_lib.specs.Accesses.{Access, AccessesOf, read_if_aligned}
use Rattle.rrs_lib.specs.Executor.{state_in}
use Rattle.rrs_gdb.proofs.breaks.access_at.Goals as goal

pub returns-in-Ok-clause-access : goal.returns-in-Ok-clause-access
returns-in-Ok-clause-access g c = c.access_of.ensures _ _ (λ aligned. c.in-Ok.ensures.word.1)

pub returns-in-Err-clause-access : goal.returns-in-Err-clause-access
returns-in-Err-clause-access g c =
    let s = state_in g.M.Memory.bytes g.M.Memory.writable c.args.executor.now in
    subst (λ (xs : List Access). AccessesOf s xs) (sym (append-nil (read_if_aligned s s.pc Word)))
    (c.in-Err.ensures.alone s refl refl)
