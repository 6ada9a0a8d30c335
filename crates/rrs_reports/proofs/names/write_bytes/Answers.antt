-- Each turn writes the next byte as it is shown, and what is left is shown after it.
use Rattle.std.proofs.Common.{◌≡◌, ◌<◌, ◌+◌, ◌++◌, length, get_or, drop, sym, ap, ◌∙◌, append_assoc, rules, arith}
use Rattle.std.proofs.Output.{has_written_append}
use Rattle.std.proofs.lemmas.List.{at_drop_more}
use Rattle.rrs_reports.specs.ShownNames.{shown_byte, shown_bytes}
use Rattle.rrs_reports.proofs.names.write_bytes.Goals as goal

pub loop-byte-preserved : goal.loop-byte-preserved
loop-byte-preserved g c =
    λ plain.
    let now = c.loop-byte.invariant plain in
    let i = c.loop-byte.byte-index in
    let bytes = c.args.bytes.now in
    let below : i < length bytes = omega arith in
    let more : shown_bytes (drop i bytes) ≡ shown_byte (get_or bytes i 0) ++ shown_bytes (drop (i + 1) bytes) = at_drop_more shown_bytes bytes i 0 below in (
      now.0 ++ shown_byte (get_or bytes i 0),
      has_written_append _ _ _ _ _ _ now.1 (search rules),
      append_assoc now.0 (shown_byte (get_or bytes i 0)) _ ∙ ap (λ l. now.0 ++ l) (sym more) ∙ now.2,
    )
