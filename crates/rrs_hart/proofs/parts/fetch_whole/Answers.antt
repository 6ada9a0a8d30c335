use Rattle.std.proofs.Common.{refl}
use Rattle.rrs_hart.proofs.Fetches.{over, word_unfetched}
use Rattle.rrs_hart.proofs.parts.fetch_whole.Goals as goal

pub returns-in-Ok-clause-makes : goal.returns-in-Ok-clause-makes
returns-in-Ok-clause-makes g c =
    let memory = g.M.Memory in
    c.fetch_word.ensures.makes (over c.args.pc (memory.bytes c.args.mem.now) (memory.writable c.args.mem.now)) refl

pub returns-in-Err-clause-makes : goal.returns-in-Err-clause-makes
returns-in-Err-clause-makes g c =
    let memory = g.M.Memory in
    c.fetch_word.ensures.makes (over c.args.pc (memory.bytes c.args.mem.now) (memory.writable c.args.mem.now)) refl

pub returns-in-Err-clause-fetched : goal.returns-in-Err-clause-fetched
returns-in-Err-clause-fetched g c =
    let memory = g.M.Memory in
    let s = over c.args.pc (memory.bytes c.args.mem.now) (memory.writable c.args.mem.now) in
    word_unfetched s c.in-Err.fault (c.in-Err.ensures.none s refl refl) (c.in-Err.ensures.fault s refl refl)
