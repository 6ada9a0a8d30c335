use Rattle.std.proofs.Common.{◌≡◌, take}
use Rattle.rrs_gdb.specs.Packets.{escaped}
use Rattle.rrs_gdb.proofs.framing.escape.Given as goal

abbrev pub invariant-loop-byte : goal.invariant-loop-byte
invariant-loop-byte l = l.bytes.items ≡ escaped (take l.byte-index l.payload)
