-- What the setting accepts.
use Rattle.std.proofs.Common.{◌≡◌, IfErr, subst, sym}
use Rattle.rrs_gdb.specs.Sessions.{Accepts, help_text}
use Rattle.rrs_gdb.specs.declared.queries.Setting.{Setting}
use Rattle.rrs_gdb.proofs.queries.set_to.Goals as goal

pub returns-in-HistoryRoom-clause-helped : goal.returns-in-HistoryRoom-clause-helped
returns-in-HistoryRoom-clause-helped c =
    let P : Setting → Type 0 = λ setting. IfErr c.set_room.result (λ told. ¬ Accepts setting c.args.argument.now → told.now ≡ help_text) in
    subst P (sym c.in-HistoryRoom.is) c.set_room.ensures.helped
