-- The load leaves the segments, and the stack is written above them.
use Rattle.std.proofs.Common.{inl}
use Rattle.rrs_exec.proofs.Filling.{filled_by}
use Rattle.rrs_exec.proofs.image.fill.Goals as goal

pub returns-in-Ok-clause-filled : goal.returns-in-Ok-clause-filled
returns-in-Ok-clause-filled g c =
    let read = c.in-Ok.ensures.loads in
    filled_by c.args.executable.now.addresses c.args.executable.now.file.now c.args.sp c.args.stack.now read.input _ _ _ _ _ _ c.in_default.ensures.loaded read.loaded read.answered.0 read.answered.1 c.requires.below

-- where it is writable no address is refused
pub returns-in-Err-clause-fillable : goal.returns-in-Err-clause-fillable
returns-in-Err-clause-fillable g c = λ there.
    let stops = c.in-Err.ensures.refused in
    absurd (cc (stops.outside, stops.here, there.segments stops.n stops.k stops.numbered stops.within))

pub returns-in-Err-clause-refused : goal.returns-in-Err-clause-refused
returns-in-Err-clause-refused g c =
    let stops = c.in-Err.ensures.refused in
    inl (stops.outside, inl (stops.n, stops.k, stops.numbered, stops.within, stops.here))
