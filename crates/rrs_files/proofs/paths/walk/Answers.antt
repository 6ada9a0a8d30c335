use Rattle.std.proofs.Common.{◌≡◌, length, refl, arith}
use Rattle.rrs_files.specs.Paths.{Begun, Further, IsSeen, IsStopped}
use Rattle.rrs_files.proofs.paths.walk.Goals as goal

pub loop-at-init : goal.loop-at-init
loop-at-init g c = Begun

pub returns-in-Some : goal.returns-in-Some
returns-in-Some g c =
    IsStopped c.loop-at.at c.loop-at.folder c.in-Some.error c.loop-at.invariant c.loop-at-test.true c.in-Some.ensures refl

pub loop-at-preserved : goal.loop-at-preserved
loop-at-preserved g c = Further c.loop-at.at c.loop-at.folder c.enter.new.folder c.loop-at.invariant c.in-None.ensures

pub returns : goal.returns
returns g c =
    let all : c.loop-at.at ≡ length c.args.path.now = omega (arith, c.loop-at-test.false, c.loop-at.auto.at-end) in
    IsSeen c.loop-at.folder c.look-seen.result (rw all at c.loop-at.invariant) c.look-seen.ensures c.named_of.ensures
