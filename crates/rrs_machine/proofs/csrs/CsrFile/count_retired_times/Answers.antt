use Rattle.std.proofs.Common.{◌≡◌, ◌/◌, ◌%◌, ◌==◌, ap, ◌∙◌, arith}
use Rattle.rrs_instruction.specs.Words.{bit}
use Rattle.rrs_machine.proofs.Counting.{counted}
use Rattle.rrs_machine.proofs.csrs.CsrFile.count_retired_times.Goals as goal

pub returns : goal.returns
returns c =
    let f = c.args.self.now in
    let cycles = c.counter_after-self.ensures in
    let instructions = c.counter_after-self-2.ensures in
    let low : f.mcountinhibit % 2 ≡ bit f.mcountinhibit 0 = omega arith in
    let third : f.mcountinhibit / 4 % 2 ≡ bit f.mcountinhibit 2 = omega arith in
    (λ k. record f { mcycle = cycles.after k; minstret = instructions.after k })
    ∙ counted c.args.times f _ _ cycles.fits instructions.fits (ap (λ x. x == 1) low) (ap (λ x. x == 1) third)
