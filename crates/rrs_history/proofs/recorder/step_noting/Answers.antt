-- What was noted takes the store back, and the memory that is lent made the accesses.
use Rattle.std.proofs.Common.{refl, None}
use Rattle.rrs_lib.specs.Machine.{hart_of}
use Rattle.rrs_history.specs.Noting.{noting_state}
use Rattle.rrs_history.proofs.NotedAccesses.{step_replaced, still_lent, step_made}
use Rattle.rrs_history.proofs.recorder.step_noting.Goals as goal

pub returns-clause-replaced : goal.returns-clause-replaced
returns-clause-replaced g c =
    let s = noting_state g.M.Memory.bytes g.M.Memory.writable (hart_of c.args.registers.now c.args.pc None)
    c.args.noting.now in
    step_replaced g.M.Memory.bytes g.M.Memory.writable g.M.Memory.reads g.M.Memory.writes s _ _
    refl c.requires.nothing (c.step_telling.ensures.accesses None)

pub returns-clause-same_memory : goal.returns-clause-same_memory
returns-clause-same_memory g c =
    let s = noting_state g.M.Memory.bytes g.M.Memory.writable (hart_of c.args.registers.now c.args.pc None)
    c.args.noting.now in
    still_lent g.M.Memory.bytes g.M.Memory.writable g.M.Memory.reads g.M.Memory.writes s _ _
    refl c.requires.nothing (c.step_telling.ensures.accesses None)

pub returns-clause-accesses : goal.returns-clause-accesses
returns-clause-accesses g c = λ last.
    let s = noting_state g.M.Memory.bytes g.M.Memory.writable (hart_of c.args.registers.now c.args.pc last)
    c.args.noting.now in
    step_made g.M.Memory.bytes g.M.Memory.writable g.M.Memory.reads g.M.Memory.writes s _ _
    refl c.requires.nothing (c.step_telling.ensures.accesses last)
