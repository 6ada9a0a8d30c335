use Rattle.std.proofs.Common.{ℕ, Bool, Option}
use Rattle.std.specs.Io.KnownBytes.{Appends}
use Rattle.rrs_lib.specs.Machine.{state_of}
use Rattle.rrs_cli.specs.Texts.{register_lines}
use Rattle.rrs_cli.proofs.report.print_hart.Given as goal

-- the registers so far are printed
abbrev pub invariant-loop-index : goal.invariant-loop-index
invariant-loop-index g l = (bytes : ℕ → Option ℕ) (writable : ℕ → Bool)
    → Appends (g.W.Write.contents l.fn.out) (g.W.Write.contents l.out) (register_lines (state_of l.hart bytes writable) l.index)
