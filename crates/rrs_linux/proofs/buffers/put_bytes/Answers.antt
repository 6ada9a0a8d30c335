use Rattle.rrs_linux.proofs.Placed.{put_of}
use Rattle.std.proofs.Common.{refl}
use Rattle.rrs_linux.proofs.buffers.put_bytes.Goals as goal

pub returns-then-given-structure-clause-put : goal.returns-then-given-structure-clause-put
returns-then-given-structure-clause-put g c =
    let gave = c.give_bytes-given.ensures in
    let put = put_of c.args.structure.now c.give_bytes-given.result.0 refl c.requires.small c.requires.some gave.within
    gave.given.these in
    record { accesses = gave.given.accesses; these = put.all c.if-given-structure.true; made = gave.given.made }

pub returns-else-given-structure-clause-put : goal.returns-else-given-structure-clause-put
returns-else-given-structure-clause-put g c =
    let gave = c.give_bytes-given.ensures in
    let put = put_of c.args.structure.now c.give_bytes-given.result.0 refl c.requires.small c.requires.some gave.within
    gave.given.these in
    record { accesses = gave.given.accesses; these = put.not_all c.if-given-structure.false; made = gave.given.made }
