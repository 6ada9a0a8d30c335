use Rattle.std.proofs.Common.{OnErr, Ok, Err}
use Rattle.rrs_run_commands.specs.WrittenFiles.{AreApart}
use Rattle.rrs_run_commands.proofs.WrittenLemmas.{callgrind_not_apart, output_not_apart}
use Rattle.rrs_run_commands.proofs.places.check_apart.Goals as goal

pub returns-in_err-check_unread-clause-refused : goal.returns-in_err-check_unread-clause-refused
returns-in_err-check_unread-clause-refused c =
    elim c.from_residual.result as (λ r. OnErr r (AreApart c.args.files.now → ⊥))
    [ Ok v ↦ tt | Err e ↦ output_not_apart _ c.in_err-check_unread.ensures.refused ]

pub returns-in_err-check_unread-2-clause-refused :
    goal.returns-in_err-check_unread-2-clause-refused
returns-in_err-check_unread-2-clause-refused c =
    elim c.from_residual-in_err-check_unread-2.result
    as (λ r. OnErr r (AreApart c.args.files.now → ⊥))
    [ Ok v ↦ tt | Err e ↦ callgrind_not_apart _ c.in_err-check_unread-2.ensures.refused ]
