-- The steps forward are those that are taken back.
use Rattle.std.proofs.Common.{◌∙◌, arith}
use Rattle.rrs_lib.specs.Executor.{state_in}
use Rattle.rrs_history.proofs.Returning.{is_back}
use Rattle.rrs_history.proofs.ahead.look_ahead.Goals as goal

pub returns-clause-back : goal.returns-clause-back
returns-clause-back g c =
    let state = state_in g.M.Memory.bytes g.M.Memory.writable in
    let s = state c.args.executor.now in
    let t = state c.go_back.new.executor in
    let ahead = c.go_ahead-end.ensures in
    is_back s t (c.go_back.ensures.back c.args.history.now s (omega (arith, ahead.within, c.requires)) ahead.ahead)

pub returns-clause-kept : goal.returns-clause-kept
returns-clause-kept g c =
    let s = state_in g.M.Memory.bytes g.M.Memory.writable c.args.executor.now in
    let ahead = c.go_ahead-end.ensures in
    c.go_back.ensures.kept c.args.history.now s (omega (arith, ahead.within, c.requires)) ahead.ahead

pub returns-clause-room : goal.returns-clause-room
returns-clause-room g c = c.go_back.ensures.room ∙ c.go_ahead-end.ensures.ahead.room_kept
