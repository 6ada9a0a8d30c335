-- The memory that is lent makes the accesses, and what is kept of them is the one that they come to.
use Rattle.std.proofs.Common.{◌∙◌, ap}
use Rattle.rrs_hart.specs.Harts.{hart_with}
use Rattle.rrs_trace.specs.Traced.{traced_state}
use Rattle.rrs_trace.proofs.HartAccesses.{followed_made, followed_by, seen_behind}
use Rattle.rrs_trace.proofs.hart_retired.execute_traced.Goals as goal

pub returns-clause-makes : goal.returns-clause-makes
returns-clause-makes g c =
    let made = c.execute_told.ensures.makes in
    (made.0, made.1, (followed_made g.M.Memory.reads g.M.Memory.writes made.0 _ _ c.requires.past_fetch made.2).inner)

pub returns-clause-seen : goal.returns-clause-seen
returns-clause-seen g c =
    let memory = g.M.Memory in
    let made = c.execute_told.ensures.makes in
    let s = hart_with (traced_state memory.bytes memory.writable c.args.hart.now c.args.traced.now) c.args.reservation.now in
    seen_behind c.args.profile s c.args.encoding made.0 _ c.requires.fetched made.1
    ((followed_made memory.reads memory.writes made.0 _ _ c.requires.past_fetch made.2).access
    ∙ ap (λ m. followed_by m made.0) c.requires.no_access)

pub returns-clause-same_memory : goal.returns-clause-same_memory
returns-clause-same_memory g c =
    let made = c.execute_told.ensures.makes in
    (followed_made g.M.Memory.reads g.M.Memory.writes made.0 _ _ c.requires.past_fetch made.2).same_memory
