use Rattle.std.proofs.Common.{◌-◌, ◌≤◌, []}
use Rattle.std.specs.Io.KnownBytes.{Consumes}
use Rattle.rrs_board.specs.Inputs.{Interruptions}
use Rattle.rrs_board.proofs.input.ask_source.Given as goal

-- each read so far was interrupted, and gave nothing
abbrev pub invariant-loop-interrupted : goal.invariant-loop-interrupted
invariant-loop-interrupted g l = record {
  within : l.interrupted ≤ 18446744073709551615;
  made : Interruptions g.R.ByteSource.reads l.patience l.interrupted l.initial.source l.source;
  bytes : Consumes (g.R.ByteSource.remaining l.initial.source)
      (g.R.ByteSource.remaining l.source) [];
}

abbrev pub decreases-loop-interrupted : goal.decreases-loop-interrupted
decreases-loop-interrupted g l = 18446744073709551615 - l.interrupted
