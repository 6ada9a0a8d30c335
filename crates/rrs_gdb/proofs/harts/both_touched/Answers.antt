use Rattle.std.proofs.Common.{sym, ◌∙◌}
use Rattle.rrs_lib.specs.Executor.{state_in}
use Rattle.rrs_gdb.proofs.HartLemmas.{swap_loads, swap_stores, swap_unmapped}
use Rattle.rrs_gdb.proofs.harts.both_touched.Goals as goal

pub returns-in-Some-clause-touched : goal.returns-in-Some-clause-touched
returns-in-Some-clause-touched g c = λ row f.
    swap_loads _ row f c.args.address (state_in g.M.Memory.bytes g.M.Memory.writable c.args.executor.now) _ c.in-Some.watch
    c.in-Some.ensures.0 c.in-Some.ensures.1

pub returns-in-Some-read_mem-clause-touched : goal.returns-in-Some-read_mem-clause-touched
returns-in-Some-read_mem-clause-touched g c = λ row f.
    swap_stores _ row f c.args.address (state_in g.M.Memory.bytes g.M.Memory.writable c.args.executor.now) _
    c.in-Some-read_mem.field-0 _ (sym c.read_mem.ensures.laws.value ∙ c.in-Some-read_mem.is) c.in_default.ensures
    c.touched-in-Some-read_mem.ensures

pub returns-in-None-clause-touched : goal.returns-in-None-clause-touched
returns-in-None-clause-touched g c = λ row f.
    swap_unmapped _ row f c.args.address (state_in g.M.Memory.bytes g.M.Memory.writable c.args.executor.now) _
    (sym c.read_mem.ensures.laws.value ∙ c.in-None.is) c.in_default.ensures
