use Rattle.std.proofs.Common.{◌≡◌, refl, arith}
use Rattle.rrs_instruction.specs.Words.{bit}
use Rattle.rrs_board.proofs.devices.Devices.can_wake.Goals as goal

pub returns-then-csrs-eq1 : goal.returns-then-csrs-eq1
returns-then-csrs-eq1 c =
    let enabled : bit c.args.csrs.now.mie 7 ≡ 1 = omega (arith, c.if-csrs-eq1.true) in
    rw enabled refl

pub returns-else-csrs-eq1 : goal.returns-else-csrs-eq1
returns-else-csrs-eq1 c =
    let masked : bit c.args.csrs.now.mie 7 ≡ 0 = omega (arith, c.if-csrs-eq1.false) in
    rw masked refl
