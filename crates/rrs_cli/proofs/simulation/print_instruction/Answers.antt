use Rattle.std.proofs.Common.{◌≡◌, sym, ◌∙◌, subst}
use Rattle.std.proofs.lemmas.Result.{on_ok_weaker}
use Rattle.rrs_cli.specs.Account.{LinesOfWord, Inside}
use Rattle.rrs_cli.proofs.Printed.{if_stops_weaker}
use Rattle.rrs_cli.proofs.simulation.print_instruction.Goals as goal

pub returns-in-Some-clause-printed : goal.returns-in-Some-clause-printed
returns-in-Some-clause-printed g c =
    let made = c.as_bytes.ensures.value ∙ c.as_str.ensures.value ∙ c.line_of-line.ensures in
    let lines : LinesOfWord c.args.pc c.args.word c.as_bytes.result.now = Inside _ _ _ c.in-Some.ensures.decoded c.text-text.ensures.text made in
    on_ok_weaker c.write_text.result (λ appended. record { lines = c.as_bytes.result.now; are_lines = lines; appended = appended }) c.write_text.ensures.ok

pub returns-in-Some-clause-fault : goal.returns-in-Some-clause-fault
returns-in-Some-clause-fault g c =
    let made = c.as_bytes.ensures.value ∙ c.as_str.ensures.value ∙ c.line_of-line.ensures in
    let lines : LinesOfWord c.args.pc c.args.word c.as_bytes.result.now = Inside _ _ _ c.in-Some.ensures.decoded c.text-text.ensures.text made in
    if_stops_weaker (λ _. ⊥) (λ _. ⊥) (λ xs. xs ≡ c.as_bytes.result.now) (LinesOfWord c.args.pc c.args.word) _ _ c.write_text.result
    (λ xs never. never) (λ xs e. subst (LinesOfWord c.args.pc c.args.word) (sym e) lines) c.write_text.ensures.fault
