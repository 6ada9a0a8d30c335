use Rattle.std.proofs.Common.{◌≡◌, ◌++◌, drop, option_map, List, ℕ}
use Rattle.rrs_gdb.specs.Packets.{unescaped, unescaped_from}
use Rattle.rrs_gdb.proofs.framing.unescape.Given as goal

-- what is left stands for the rest of the payload
abbrev pub invariant-loop-byte : goal.invariant-loop-byte
invariant-loop-byte l = unescaped l.bytes
    ≡ option_map (λ (rest : List ℕ). l.payload.items ++ rest) (unescaped_from l.is_behind (drop l.byte-index l.bytes))
