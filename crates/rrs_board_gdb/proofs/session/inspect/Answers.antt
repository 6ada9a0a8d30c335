-- What each packet is answered, by its letter.
use Rattle.std.proofs.Common.{◌≡◌, rules}
use Rattle.rrs_gdb.specs.Sessions.{letter}
use Rattle.rrs_board_gdb.proofs.SessionLemmas.{behind_letter}
use Rattle.rrs_board_gdb.proofs.AnswerLemmas.{inspects_p, inspects_P, inspects_m, inspects_M}
use Rattle.rrs_board_gdb.proofs.session.inspect.Goals as goal

pub returns-in-112-clause-inspects : goal.returns-in-112-clause-inspects
returns-in-112-clause-inspects c =
    let at : letter c.args.payload.now ≡ 112 = search rules in
    inspects_p c.show.result c.args.payload.now _ _ _ _ _ at (behind_letter c.args.payload.now) c.show.ensures

pub returns-in-80-clause-inspects : goal.returns-in-80-clause-inspects
returns-in-80-clause-inspects c =
    let at : letter c.args.payload.now ≡ 80 = search rules in
    inspects_P c.set.result c.args.payload.now _ _ _ _ _ at (behind_letter c.args.payload.now) c.set.ensures.set

pub returns-in-109-clause-inspects : goal.returns-in-109-clause-inspects
returns-in-109-clause-inspects c =
    let at : letter c.args.payload.now ≡ 109 = search rules in
    inspects_m c.show_memory.result c.args.payload.now _ _ _ _ _ at (behind_letter c.args.payload.now)
    c.show_memory.ensures.shown

pub returns-in-77-clause-inspects : goal.returns-in-77-clause-inspects
returns-in-77-clause-inspects c =
    let at : letter c.args.payload.now ≡ 77 = search rules in
    inspects_M c.change_by_digits.result c.args.payload.now _ _ _ _ _ at (behind_letter c.args.payload.now)
    c.change_by_digits.ensures.set
