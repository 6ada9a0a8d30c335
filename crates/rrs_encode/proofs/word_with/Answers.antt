use Rattle.std.proofs.Common.{◌≡◌, Some, sym, ap, subst, ◌∙◌}
use Rattle.std.proofs.lemmas.Option.{same_Some}
use Rattle.rrs_instruction.specs.Encodings.{encode}
use Rattle.rrs_instruction.specs.Table.{table, Decodes}
use Rattle.rrs_instruction.specs.Instructions.{row_of, as_fields}
use Rattle.rrs_encode.proofs.Rows.{decodes_with}
use Rattle.rrs_encode.proofs.word_with.Goals as goal

pub returns-then-number : goal.returns-then-number
returns-then-number c w =
    let row = row_of c.args.template.now in
    let f = as_fields c.args.fields in
    let made : c.word_of-word.result ≡ encode (table row).opcode f =
    c.word_of-word.ensures ∙ ap (λ op. encode op f) c.opcode_of.ensures in
    let numbers : (table (row_of c.in_ok-found.found)).number ≡ (table row).number =
    sym c.number.ensures.number ∙ c.if-number.true ∙ c.number-2.ensures.number in
    let own = decodes_with _ row f c.in_ok-found.found c.requires c.if-not-is_in_range.ensures made
    c.in_ok-found.ensures.decoded numbers in
    (λ e. subst (λ v. Decodes v row f) (same_Some _ _ e) own, λ is. ap Some (made ∙ sym is.encoded))
