-- By whether the operand is an immediate.
use Rattle.std.proofs.Common.{rules, ◌≡◌, ◌++◌, codes, true, false, sym, ◌∙◌}
use Rattle.std.proofs.lemmas.List.{append_assoc}
use Rattle.std.specs.Fmt.{decimal}
use Rattle.rrs_words.specs.SystemInstructions.{has_immediate}
use Rattle.rrs_words.proofs.texts.push_operand.Goals as goal

pub returns-then-has_immediate : goal.returns-then-has_immediate
returns-then-has_immediate c =
    let is : has_immediate c.args.instruction.now.row ≡ true = sym c.has_immediate.ensures ∙ c.if-has_immediate.true in
    rw is (search rules)

pub returns-else-has_immediate : goal.returns-else-has_immediate
returns-else-has_immediate c =
    let is : has_immediate c.args.instruction.now.row ≡ false = sym c.has_immediate.ensures ∙ c.if-has_immediate.false in
    let number = decimal c.args.instruction.now.fields.rs1 in
    let before = c.args.text.now.bytes in
    rw is
    (c.push_number-else-has_immediate.ensures.bytes
    ∙ append_assoc before (codes ", x") number
    ∙ sym (append_assoc before (codes ", ") (codes "x" ++ number)))
