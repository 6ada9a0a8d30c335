-- One string more is there, and one less is left.
use Rattle.std.proofs.Common.{map, ap}
use Rattle.std.specs.String.{string_bytes}
use Rattle.rrs_exec.proofs.StackWords.{cut_at, string_pushed}
use Rattle.rrs_exec.proofs.stack.push_strings.Goals as goal

pub loop-text-preserved : goal.loop-text-preserved
loop-text-preserved c =
    let item = c.text-item in
    let cut = cut_at _ c.loop-text.text-index item.result c.loop-text-test.true item.is in
    string_pushed _ _ _ (ap (map string_bytes) cut) _ _ _ _ _ c.loop-text.invariant
    c.as_bytes.ensures.value c.in_ok-extend_from_slice.ensures.items
    c.in_ok-extend_from_slice-2.ensures.items
