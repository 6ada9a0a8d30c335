-- None is at the pc, a row, or an instruction of a layer.
use Rattle.std.proofs.Common.{refl, sym, subst, ◌∙◌}
use Rattle.rrs_instruction.specs.Instructions.{row_of, fields_of}
use Rattle.rrs_lib.specs.Executor.{state_in}
use Rattle.rrs_lib.specs.Machine.{State}
use Rattle.rrs_hart.specs.Harts.{hart_with, layer_accesses}
use Rattle.rrs_instruction.specs.Table.{table}
use Rattle.rrs_trace.specs.Outside.{request_by}
use Rattle.rrs_gdb.specs.Harts.{TouchesOneOf, TouchesAsked}
use Rattle.rrs_gdb.proofs.HartLemmas.{no_encoding, row_found, layer_found}
use Rattle.rrs_gdb.proofs.harts.watch_hart.Goals as goal

pub returns-in_default-clause-touched : goal.returns-in_default-clause-touched
returns-in_default-clause-touched g c =
    let s = state_in g.M.Memory.bytes g.M.Memory.writable c.args.executor.now in
    no_encoding _ _ (hart_with s c.args.reservation) (sym c.encoding_at.ensures.found ∙ c.in_default.is)

pub returns-in-Some-row_in-clause-touched : goal.returns-in-Some-row_in-clause-touched
returns-in-Some-row_in-clause-touched g c =
    let s = state_in g.M.Memory.bytes g.M.Memory.writable c.args.executor.now in
    let u = state_in g.M.Memory.bytes g.M.Memory.writable c.encoding_at.new.executor in
    let i = c.in-Some-row_in.instruction in
    row_found _ _ (hart_with s c.args.reservation) _ (row_of i) (fields_of i) _ _ (sym c.encoding_at.ensures.found ∙ c.in-Some.is)
    c.in-Some-row_in.ensures.stands refl
    (subst (λ (x : State). TouchesAsked c.args.watches.now (request_by (table (row_of i)).action (fields_of i) x) c.row_touched.result)
    c.encoding_at.ensures.kept (c.row_touched.ensures u.bytes u.writable))

pub returns-in-Some-layer_in-clause-touched : goal.returns-in-Some-layer_in-clause-touched
returns-in-Some-layer_in-clause-touched g c =
    let s = state_in g.M.Memory.bytes g.M.Memory.writable c.args.executor.now in
    let i = c.in-Some-layer_in.instruction in
    layer_found _ _ (hart_with s c.args.reservation) _ i _ (sym c.encoding_at.ensures.found ∙ c.in-Some.is)
    c.in_default-row_in.ensures.outside c.in-Some-layer_in.ensures.is
    (subst (λ (x : State). TouchesOneOf c.args.watches.now (layer_accesses i x c.args.reservation) c.layer_touched.result)
    c.encoding_at.ensures.kept c.layer_touched.ensures.touched)
