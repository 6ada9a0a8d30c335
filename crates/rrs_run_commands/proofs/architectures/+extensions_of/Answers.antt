-- The first extension is read, and then those behind it.
use Rattle.std.proofs.Common.{rules, ◌≢◌, [], sym, ◌∙◌}
use Rattle.rrs_run_commands.proofs.ArchitectureNames.{none_begins, known_begins, followed}
use Rattle.rrs_run_commands.proofs.architectures.+extensions_of.Goals as goal

pub returns-in_default : goal.returns-in_default
returns-in_default t c = λ es x.
    let some : c.args.text.now ≢ [] = search rules in
    none_begins c.args.text.now c.args.known x es some c.in_default.ensures

pub returns-in_default-with_one : goal.returns-in_default-with_one
returns-in_default-with_one t c = λ es x.
    known_begins c.args.text.now c.in-Some.rest.now c.args.known x c.in-Some.extension es c.in-Some.ensures
    (sym c.with_one.ensures ∙ c.in_default-with_one.is)

pub returns : goal.returns
returns t c =
    followed c.args.text.now c.in-Some.rest.now c.args.known c.in-Some-with_one.more c.in-Some.extension c.extensions_of.result c.in-Some.ensures
    (sym c.with_one.ensures ∙ c.in-Some-with_one.is) c.extensions_of.ensures
