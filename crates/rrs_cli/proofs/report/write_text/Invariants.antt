use Rattle.std.proofs.Common.{◌≤◌, length, take}
use Rattle.std.specs.Io.KnownBytes.{Appends}
use Rattle.rrs_cli.proofs.report.write_text.Given as goal

-- the front of the text is written
abbrev pub invariant-loop : goal.invariant-loop
invariant-loop g l = record {
  within : l.written ≤ length l.text;
  appended : Appends (g.W.Write.contents l.initial.out) (g.W.Write.contents l.out) (take l.written l.text);
}
