-- What was fetched is executed over the memory that is lent.
use Rattle.std.proofs.Common.{rules, sym, subst}
use Rattle.rrs_lib.specs.Machine.{state_of}
use Rattle.rrs_lib.proofs.Engines.{moved}
use Rattle.rrs_hart.specs.Harts.{hart_with, HartStep}
use Rattle.rrs_trace.proofs.HartAccesses.{within_told}
use Rattle.rrs_trace.proofs.hart_retired.execute_in_seen.Goals as goal

pub access_of-requires : goal.access_of-requires
access_of-requires g c = within_told c.args.profile _ c.execute_traced-told.result c.execute_traced-told.ensures.told

pub returns-clause-step : goal.returns-clause-step
returns-clause-step g c =
    let memory = g.M.Memory in
    let done = c.execute_traced-told in
    let p = c.args.profile in
    let s = hart_with (state_of c.args.hart.now (memory.bytes c.args.mem.now) (memory.writable c.args.mem.now)) c.args.reservation.now in
    let t = hart_with (state_of done.new.hart (memory.bytes done.new.traced.memory.now) (memory.writable done.new.traced.memory.now)) done.new.reservation in
    moved (λ x. HartStep p s x c.access_of.result.0) t _ (search rules)
    (subst (λ a. HartStep p s t a) (sym c.access_of.ensures.answer) done.ensures.step)

pub returns-clause-access : goal.returns-clause-access
returns-clause-access g c =
    let memory = g.M.Memory in
    let s = hart_with (state_of c.args.hart.now (memory.bytes c.args.mem.now) (memory.writable c.args.mem.now)) c.args.reservation.now in
    c.access_of.ensures.access c.args.profile s c.args.encoding c.requires.fetched c.execute_traced-told.ensures.told c.execute_traced-told.ensures.seen
