use Rattle.std.proofs.Common.{◌≡◌, arith}
use Rattle.rrs_lib.specs.Machine.{state_of}
use Rattle.rrs_cli.proofs.Printing.{hart_lines-printed}
use Rattle.rrs_cli.proofs.report.print_hart.Goals as goal

pub returns : goal.returns
returns g c = λ bytes writable.
    let all : c.loop-index.index ≡ 32 = omega (arith, c.loop-index-test.false, c.loop-index.auto.index-end) in
    hart_lines-printed _ _ _ (state_of c.args.hart.now bytes writable) _ _ all (c.loop-index.invariant bytes writable) c.print_pc.ensures
