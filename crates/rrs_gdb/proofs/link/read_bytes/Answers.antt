-- Byte by byte.
use Rattle.std.proofs.Common.{rules}
use Rattle.rrs_gdb.proofs.LinkLemmas.{has_read_dollar, has_read_kept, has_read_long, has_read_whole}
use Rattle.rrs_gdb.proofs.link.read_bytes.Goals as goal
use Rattle.rrs_gdb.proofs.link.read_bytes.Goals.{in-36, in_default-byte+in_ok-push-in_default-byte, in_default-2}

pub returns-in-35 : goal.returns-in-35
returns-in-35 g c = has_read_whole _ _ _ _ _ _ c.loop.invariant c.in-Some.ensures c.in-35.is

pub loop-preserved : goal.loop-preserved
loop-preserved g c =
    let read = c.loop.invariant in
    elim c.match-byte.branch [
      | in-36 w ↦ rw (w.bytes-is, w.is_long-is, w.clear.ensures.items)
          (has_read_dollar _ _ _ _ _ read (rw w.in-36.is at c.in-Some.ensures))
      | in_default-byte+in_ok-push-in_default-byte w ↦ rw (w.bytes-is, w.is_long-is, w.in_ok-push-in_default-byte.ensures.items)
          (has_read_kept _ _ _ _ _ c.in-Some.byte read c.in-Some.ensures (search rules) (search rules) (search rules))
      | in_default-2 w ↦ rw (w.bytes-is, w.is_long-is)
          (has_read_long _ _ _ _ _ c.in-Some.byte read c.in-Some.ensures (search rules) (search rules) (search rules))
    ]
