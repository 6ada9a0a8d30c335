use Rattle.std.proofs.Common.{refl}
use Rattle.rrs_board_gdb.specs.Shown.{with_register}
use Rattle.rrs_board_gdb.proofs.SessionLemmas.{changed_so, changed_not}
use Rattle.rrs_board_gdb.proofs.session.change.Goals as goal

pub returns-in-Some-clause-changed : goal.returns-in-Some-clause-changed
returns-in-Some-clause-changed c =
    let old = c.args.board.now in
    changed_so c.args.text.now old c.change_register.new.board c.in-Some.number c.in-Some.value
    (with_register old c.in-Some.number c.in-Some.value) c.change_register.result c.in-Some.ensures.found refl
    c.change_register.ensures

pub returns-in-Some-clause-refused : goal.returns-in-Some-clause-refused
returns-in-Some-clause-refused c =
    let old = c.args.board.now in
    changed_not c.args.text.now old c.change_register.new.board c.in-Some.number c.in-Some.value
    (with_register old c.in-Some.number c.in-Some.value) c.change_register.result c.in-Some.ensures.found refl
    c.change_register.ensures
