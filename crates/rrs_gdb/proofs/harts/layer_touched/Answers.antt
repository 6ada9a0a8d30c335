-- The accesses of one of extension A.
use Rattle.std.proofs.Common.{sym, subst}
use Rattle.rrs_lib.specs.Executor.{state_in}
use Rattle.rrs_words.specs.declared.layers.LayerInstruction.{LayerInstruction}
use Rattle.rrs_hart.specs.Harts.{layer_accesses}
use Rattle.rrs_gdb.specs.Harts.{TouchesOneOf}
use Rattle.rrs_gdb.proofs.harts.layer_touched.Goals as goal

pub returns-in-Atomic-clause-touched : goal.returns-in-Atomic-clause-touched
returns-in-Atomic-clause-touched g c =
    let s = state_in g.M.Memory.bytes g.M.Memory.writable c.args.executor.now in
    subst (λ (i : LayerInstruction). TouchesOneOf c.args.watches.now (layer_accesses i s c.args.reservation) c.atomic_touched.result)
    (sym c.in-Atomic.is) c.atomic_touched.ensures.touched
