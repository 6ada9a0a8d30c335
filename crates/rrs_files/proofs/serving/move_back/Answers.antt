use Rattle.std.proofs.Common.{◌≡◌, ◌-◌, ◌^◌, arith}
use Rattle.rrs_files.specs.Calls.{IsMovedBack}
use Rattle.rrs_files.proofs.serving.move_back.Goals as goal

pub returns-in-None : goal.returns-in-None
returns-in-None g c =
    let back : 18446744073709551615 - (c.args.left - 1) ≡ 2 ^ 64 - c.args.left =
    omega (arith, c.if-left-eq0.false) in
    IsMovedBack c.seek-moved.result (omega (arith, c.if-left-eq0.false)) c.in-None.is
    (rw back at c.seek-moved.ensures)
