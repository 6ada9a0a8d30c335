-- It is called for one place less.
use Rattle.rrs_hart.proofs.bits.+in_turn.Given as goal

abbrev pub decreases-in_turn : goal.decreases-in_turn
decreases-in_turn l = l.count
