use Rattle.std.proofs.Common.{◌≡◌, refl, arith}
use Rattle.rrs_instruction.specs.Words.{bit}
use Rattle.rrs_machine.proofs.csrs.CsrFile.vector.Goals as goal

pub returns-then-self-eq1 : goal.returns-then-self-eq1
returns-then-self-eq1 c =
    let low : bit c.args.self.now.mtvec 0 ≡ 1 = omega (arith, c.if-self-eq1.true) in
    rw (low, c.base.ensures) refl

pub returns-else-self-eq1 : goal.returns-else-self-eq1
returns-else-self-eq1 c =
    let low : bit c.args.self.now.mtvec 0 ≡ 0 = omega (arith, c.if-self-eq1.false) in
    rw low c.base-else-self-eq1.ensures
