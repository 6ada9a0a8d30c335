use Rattle.std.proofs.Common.{◌≡◌, ◌++◌, take}
use Rattle.rrs_gdb.specs.Shown.{text_of}
use Rattle.rrs_gdb.proofs.framing.push_bytes.Given as goal

abbrev pub invariant-loop-byte : goal.invariant-loop-byte
invariant-loop-byte l = l.reply.items ≡ l.initial.reply.items ++ text_of (take l.byte-index l.bytes)
