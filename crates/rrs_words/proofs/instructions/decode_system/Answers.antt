-- A word of the table has the places of its row.
use Rattle.std.proofs.Common.{rules, ◌≡◌, None}
use Rattle.rrs_words.proofs.SystemRows.{places_of}
use Rattle.rrs_words.proofs.instructions.decode_system.Goals as goal

pub returns-in_err-row-clause-outside : goal.returns-in_err-row-clause-outside
returns-in_err-row-clause-outside c =
    let answer : c.from_residual.result ≡ None = search rules in
    rw answer (λ row f is. c.in_err-row.ensures.none row (places_of _ row f is))
