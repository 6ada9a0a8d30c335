-- The change is the kit's, over the same registers and the same words.
use Rattle.std.proofs.Common.{◌≡◌, rules, ap, sym}
use Rattle.rrs_lib.specs.Machine.{State, hart_of}
use Rattle.rrs_history.specs.declared.change.Change.{Change}
use Rattle.rrs_history.specs.Changes.{undone}
use Rattle.rrs_c.specs.Undoing.{change_in}
use Rattle.rrs_c.proofs.Carrying.{carried, left}
use Rattle.rrs_c.proofs.rrs_undo.Goals as goal

pub returns-clause-back : goal.returns-clause-back
returns-clause-back c =
    let hart = c.args.hart.now in
    let lent = c.undo_lent-pc in
    carried (λ (s t : State) (x : Change). t ≡ undone x s) (hart_of hart.x hart.pc c.last_of-last.result) (hart_of lent.new.registers lent.result.0 lent.result.1) hart (record { x = lent.new.registers; pc = lent.result.0; last = c.number_of-hart.result })
    c.args.base lent.new.mem.base c.args.words.now lent.new.mem.words.now _
    c.change_from.result (change_in c.args.change.now)
    (ap (hart_of hart.x hart.pc) c.last_of-last.ensures.same) (left _ _ c.number_of-hart.result _ lent.ensures.last c.number_of-hart.ensures.register) lent.ensures.lent.same_base (search rules)
    (sym c.change_from.ensures.same) lent.ensures.back
