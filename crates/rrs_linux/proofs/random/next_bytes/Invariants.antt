use Rattle.std.proofs.Common.{◌≡◌, ◌*◌, length, take}
use Rattle.rrs_linux.specs.Random.{random_bytes, state_after}
use Rattle.rrs_linux.proofs.random.next_bytes.Given as goal

-- the bytes of the numbers so far
abbrev pub invariant-loop-index : goal.invariant-loop-index
invariant-loop-index l = record {
  state : l.state ≡ state_after l.fn.state l.index;
  bytes : take (8 * l.index) l.bytes ≡ random_bytes l.fn.state l.index;
  long : length l.bytes ≡ 256;
}
