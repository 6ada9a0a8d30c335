use Rattle.std.proofs.Common.{◌++◌, ◌∷◌, [], List, ℕ, ◌∙◌, ap, get_or, take, append_assoc, arith}
use Rattle.std.proofs.lemmas.List.{take_more}
use Rattle.rrs_gdb.specs.Packets.{digits_of}
use Rattle.rrs_gdb.specs.Shown.{text_of}
use Rattle.rrs_gdb.proofs.ShownLemmas.{text_of-append, text_of-one}
use Rattle.rrs_gdb.proofs.framing.push_bytes.Goals as goal

pub loop-byte-preserved : goal.loop-byte-preserved
loop-byte-preserved c =
    let bytes = c.args.bytes.now in
    let i = c.loop-byte.byte-index in
    let b = get_or bytes i 0 in
    let more = take_more bytes i 0 (omega arith) in
    rw (more, text_of-append (take i bytes) (b ∷ []), text_of-one b)
    (c.in_ok-push_hex.ensures ∙ ap (λ (xs : List ℕ). xs ++ digits_of b) c.loop-byte.invariant
    ∙ append_assoc c.args.reply.now.items (text_of (take i bytes)) (digits_of b))
