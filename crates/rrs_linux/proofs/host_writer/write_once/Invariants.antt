use Rattle.std.specs.Io.KnownBytes.{Keeps}
use Rattle.rrs_linux.proofs.host_writer.write_once.Given as goal

-- nothing is written so far
abbrev pub invariant-loop : goal.invariant-loop
invariant-loop g l = Keeps (g.W.Write.contents l.fn.out) (g.W.Write.contents l.out)
