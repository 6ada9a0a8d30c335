use Rattle.std.specs.Io.KnownBytes.{Keeps}
use Rattle.rrs_board.proofs.terminal.write_byte.Given as goal

-- nothing is written yet
abbrev pub invariant-loop : goal.invariant-loop
invariant-loop g l = Keeps (g.W.Write.contents l.initial.output) (g.W.Write.contents l.output)
