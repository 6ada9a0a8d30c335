-- The first ones of the two parts.
use Rattle.rrs_history.proofs.Keeping.{two_filled}
use Rattle.rrs_history.proofs.history.newest.Goals as goal

pub returns-clause-kept : goal.returns-clause-kept
returns-clause-kept g c =
    let first = c.fill_from_slice-first in
    let rest = c.fill_from_slice-rest in
    let filled = two_filled c.args.capacity first.result rest.result c.as_slices.result.0.now c.as_slices.result.1.now
    c.args.old.now.items c.in_ok-ring.ring first.new.self rest.new.self c.in_ok-ring.ensures first.ensures.count
    first.ensures.items rest.ensures.count rest.ensures.items c.as_slices.ensures in
    filled.0

pub returns-clause-room : goal.returns-clause-room
returns-clause-room g c =
    let first = c.fill_from_slice-first in
    let rest = c.fill_from_slice-rest in
    let filled = two_filled c.args.capacity first.result rest.result c.as_slices.result.0.now c.as_slices.result.1.now
    c.args.old.now.items c.in_ok-ring.ring first.new.self rest.new.self c.in_ok-ring.ensures first.ensures.count
    first.ensures.items rest.ensures.count rest.ensures.items c.as_slices.ensures in
    filled.1
