-- What is asked from here on is what is asked.
use Rattle.std.proofs.Common.{List, ℕ, Option}
use Rattle.rrs_gdb.specs.declared.link.Link.{Link}
use Rattle.rrs_gdb.specs.Shown.{Requests}
use Rattle.rrs_gdb.proofs.session.next_payload.Given as goal

abbrev pub invariant-loop : goal.invariant-loop
invariant-loop g l =
    (asked : Option (List ℕ)) (new : Link _ _) → Requests g.R.Read.remaining g.W.Write.contents asked l.link new
    → Requests g.R.Read.remaining g.W.Write.contents asked l.initial.link new
