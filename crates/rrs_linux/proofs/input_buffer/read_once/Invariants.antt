use Rattle.std.specs.Io.KnownBytes.{Keeps}
use Rattle.rrs_linux.proofs.input_buffer.read_once.Given as goal

-- nothing is read so far
abbrev pub invariant-loop : goal.invariant-loop
invariant-loop g l = Keeps (g.R.Read.remaining l.fn.input) (g.R.Read.remaining l.input)
