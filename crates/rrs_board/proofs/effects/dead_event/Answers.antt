-- A hart that stands still in RAM is dead.
use Rattle.std.proofs.Common.{◌≤◌, inr, refl, ◌∙◌, arith}
use Rattle.std.proofs.lemmas.Bool.{OnTrue_at}
use Rattle.rrs_board.specs.Registers.{ram_start}
use Rattle.rrs_board.proofs.effects.dead_event.Goals as goal

pub returns-in-Ok-clause-told : goal.returns-in-Ok-clause-told
returns-in-Ok-clause-told c = λ s csrs at there.
    let in_ram : ram_start ≤ s.hart.pc = omega (arith, at, c.if-pc-ge-RAM_START.true) in
    let dead = OnTrue_at c.if-not-stands_still.false c.stands_still.ensures.dead in
    inr (refl, (dead s csrs at there, in_ram, (c.in-Ok.field-0, there ∙ c.in-Ok.is)))
