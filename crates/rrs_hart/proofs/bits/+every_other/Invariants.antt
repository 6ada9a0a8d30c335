-- It is called for one place less.
use Rattle.rrs_hart.proofs.bits.+every_other.Given as goal

abbrev pub decreases-every_other : goal.decreases-every_other
decreases-every_other l = l.count
