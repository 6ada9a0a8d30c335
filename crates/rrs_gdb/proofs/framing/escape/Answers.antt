use Rattle.std.proofs.Common.{◌++◌, ◌∷◌, [], List, ℕ, ◌∙◌, ap, get_or, take, arith}
use Rattle.std.proofs.lemmas.List.{take_more}
use Rattle.rrs_gdb.specs.Packets.{escaped_byte}
use Rattle.rrs_gdb.proofs.PacketLemmas.{escaped-append, escaped-one}
use Rattle.rrs_gdb.proofs.framing.escape.Goals as goal

pub loop-byte-preserved : goal.loop-byte-preserved
loop-byte-preserved c =
    let bytes = c.args.payload.now in
    let i = c.loop-byte.byte-index in
    let b = get_or bytes i 0 in
    let more = take_more bytes i 0 (omega arith) in
    rw (more, escaped-append (take i bytes) (b ∷ []), escaped-one b)
    (c.in_ok-push_escaped.ensures ∙ ap (λ (xs : List ℕ). xs ++ escaped_byte b) c.loop-byte.invariant)
