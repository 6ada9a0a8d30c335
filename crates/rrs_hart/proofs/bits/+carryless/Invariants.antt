-- It is called for one place less.
use Rattle.rrs_hart.proofs.bits.+carryless.Given as goal

abbrev pub decreases-carryless : goal.decreases-carryless
decreases-carryless l = l.count
