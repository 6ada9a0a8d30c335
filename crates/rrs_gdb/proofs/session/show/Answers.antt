use Rattle.std.proofs.Common.{◌≡◌, refl, rules}
use Rattle.rrs_gdb.specs.Sessions.{letter}
use Rattle.rrs_gdb.proofs.SessionLemmas.{rest_whole}
use Rattle.rrs_gdb.proofs.AnswerLemmas.{shows_g, shows_m, shows_p}
use Rattle.rrs_gdb.proofs.session.show.Goals as goal

pub returns-in-103-clause-shown : goal.returns-in-103-clause-shown
returns-in-103-clause-shown g c =
    let memory = c.args.executor.now.mem.now in
    let at : letter c.args.payload.now ≡ 103 = search rules in
    shows_g c.push_registers.result c.args.payload.now _ _ _ at
    (c.push_registers.ensures (g.M.Memory.bytes memory) (g.M.Memory.writable memory))

pub returns-in-112-clause-shown : goal.returns-in-112-clause-shown
returns-in-112-clause-shown g c =
    let memory = c.args.executor.now.mem.now in
    let at : letter c.args.payload.now ≡ 112 = search rules in
    shows_p c.show_register.result c.args.payload.now _ _ _ _ at (rest_whole c.args.payload.now)
    (c.show_register.ensures (g.M.Memory.bytes memory) (g.M.Memory.writable memory))

pub returns-in-109-clause-shown : goal.returns-in-109-clause-shown
returns-in-109-clause-shown g c =
    let at : letter c.args.payload.now ≡ 109 = search rules in
    shows_m c.show_memory.result c.args.payload.now _ _ _ _ at (rest_whole c.args.payload.now) c.show_memory.ensures.shown

pub returns-in-109-clause-kept : goal.returns-in-109-clause-kept
returns-in-109-clause-kept g c = c.show_memory.ensures.kept

pub returns-in-103-clause-kept : goal.returns-in-103-clause-kept
returns-in-103-clause-kept g c = refl

pub returns-in-112-clause-kept : goal.returns-in-112-clause-kept
returns-in-112-clause-kept g c = refl

pub returns-in_default-clause-kept : goal.returns-in_default-clause-kept
returns-in_default-clause-kept g c = refl

pub returns-in_default-2-clause-kept : goal.returns-in_default-2-clause-kept
returns-in_default-2-clause-kept g c = refl

pub returns-in_default-3-clause-kept : goal.returns-in_default-3-clause-kept
returns-in_default-3-clause-kept g c = refl
