use Rattle.std.proofs.Common.{◌∙◌, ◌+◌, drop, refl, inr, arith}
use Rattle.rrs_gdb.proofs.PacketLemmas.{cut_off, drop_next, taken_whole}
use Rattle.rrs_gdb.proofs.framing.unescape.Goals as goal

pub loop-byte-preserved : goal.loop-byte-preserved
loop-byte-preserved c =
    let bytes = c.args.bytes.now in
    let i = c.loop-byte.byte-index in
    let next = drop_next bytes i (omega arith) in
    (rw next at c.loop-byte.invariant) ∙ c.in_ok-is_behind.ensures.taken (drop (i + 1) bytes)

pub returns-then-is_behind-clause-error : goal.returns-then-is_behind-clause-error
returns-then-is_behind-clause-error c =
    inr (refl, cut_off c.args.bytes.now _ c.loop-byte.byte-index _ (omega (arith, c.loop-byte-test.false)) c.loop-byte.invariant c.if-is_behind.true)

pub returns-clause-payload : goal.returns-clause-payload
returns-clause-payload c =
    taken_whole c.args.bytes.now _ c.loop-byte.byte-index _ (omega (arith, c.loop-byte-test.false)) c.loop-byte.invariant c.if-is_behind.false
