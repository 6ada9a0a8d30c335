use Rattle.std.proofs.lemmas.Slice.Eq.{strip_prefix_is}
use Rattle.std.proofs.lemmas.Bool.Decides.{Decides-eqb}
use Rattle.std.specs.Prelude.{codes}
use Rattle.rrs_board_gdb.proofs.SessionLemmas.{first_letter}
use Rattle.rrs_board_gdb.proofs.session.actions_of.Goals as goal

pub returns-clause-found : goal.returns-clause-found
returns-clause-found c =
    strip_prefix_is Decides-eqb c.args.payload.now (codes "vCont;") c.strip_prefix.result c.strip_prefix.ensures.cases

pub returns-clause-letter : goal.returns-clause-letter
returns-clause-letter c =
    first_letter c.strip_prefix.result c.args.payload.now _
    (strip_prefix_is Decides-eqb c.args.payload.now (codes "vCont;") c.strip_prefix.result c.strip_prefix.ensures.cases)
