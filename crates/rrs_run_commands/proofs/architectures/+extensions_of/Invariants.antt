-- Each extension that is read makes the text shorter.
use Rattle.std.proofs.Common.{length}
use Rattle.rrs_run_commands.proofs.architectures.+extensions_of.Given as goal

abbrev pub decreases-extensions_of : goal.decreases-extensions_of
decreases-extensions_of l = length l.text.now
