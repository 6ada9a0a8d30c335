-- What each packet changes, by its letter.
use Rattle.std.proofs.Common.{◌≡◌, rules}
use Rattle.rrs_gdb.specs.Sessions.{letter}
use Rattle.rrs_gdb.proofs.SessionLemmas.{rest_whole}
use Rattle.rrs_gdb.proofs.ChangeLemmas.{both_ok, if_ok, sets_G, sets_M, sets_P, sets_X}
use Rattle.rrs_gdb.proofs.session.change.Goals as goal

pub returns-in-71-clause-done : goal.returns-in-71-clause-done
returns-in-71-clause-done g c = c.set_registers.ensures.done

pub returns-in-71-clause-sets : goal.returns-in-71-clause-sets
returns-in-71-clause-sets g c =
    let payload = c.args.payload.now in
    let at : letter payload ≡ 71 = search rules in
    if_ok c.set_registers.result _ _
    (λ outcome. sets_G payload _ _ _ _ _ at (rest_whole payload)) c.set_registers.ensures.set

pub returns-in-80-clause-done : goal.returns-in-80-clause-done
returns-in-80-clause-done g c = c.set_register.ensures.done

pub returns-in-80-clause-sets : goal.returns-in-80-clause-sets
returns-in-80-clause-sets g c =
    let payload = c.args.payload.now in
    let at : letter payload ≡ 80 = search rules in
    sets_P payload _ _ _ _ _ at (rest_whole payload) c.set_register.ensures.set

pub returns-in-77-clause-done : goal.returns-in-77-clause-done
returns-in-77-clause-done g c = c.change_by_digits.ensures.done

pub returns-in-77-clause-sets : goal.returns-in-77-clause-sets
returns-in-77-clause-sets g c =
    let payload = c.args.payload.now in
    let at : letter payload ≡ 77 = search rules in
    both_ok c.change_by_digits.result _ _ _
    (λ outcome. sets_M payload _ _ _ _ _ at (rest_whole payload)) c.change_by_digits.ensures.set
    c.change_by_digits.ensures.no_values

pub returns-in-88-clause-done : goal.returns-in-88-clause-done
returns-in-88-clause-done g c = c.change_by_bytes.ensures.done

pub returns-in-88-clause-sets : goal.returns-in-88-clause-sets
returns-in-88-clause-sets g c =
    let payload = c.args.payload.now in
    let at : letter payload ≡ 88 = search rules in
    sets_X payload _ _ _ _ _ at (rest_whole payload) c.change_by_bytes.ensures.set
