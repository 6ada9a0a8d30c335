-- What was read of the packet so far.
use Rattle.rrs_gdb.proofs.LinkLemmas.{HasRead}
use Rattle.rrs_gdb.proofs.link.read_bytes.Given as goal

abbrev pub invariant-loop : goal.invariant-loop
invariant-loop g l =
    HasRead (g.R.Read.remaining l.initial.reader) (g.R.Read.remaining l.reader) l.bytes.items l.is_long
