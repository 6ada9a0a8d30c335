-- A word that is no instruction of Zba to Zicond is not this one.
use Rattle.std.proofs.Common.{rules, ◌≡◌, Bool, true, false, ◌&&◌, Some, None, refl, sym, subst, ap, ◌∙◌}
use denote.Enum.Bare.{same_true}
use Rattle.std.proofs.lemmas.Option.{none-some, same_Some}
use Rattle.rrs_instruction.specs.Encodings.{R, encode}
use Rattle.rrs_words.specs.contracts.bits.BitRow.{the_type}
use Rattle.rrs_words.specs.BitInstructions.{bit_table, IsBits}
use Rattle.rrs_words.proofs.encoding.encode_bits.Goals as goal

first_of : (a b : Bool) → (a && b) ≡ true → a ≡ true
first_of true b both = refl
first_of false b both = both

pub returns-in_err-bits : goal.returns-in_err-bits
returns-in_err-bits c w =
    let row = c.args.instruction.now.row in
    let f = c.args.instruction.now.fields in
    let nothing : c.from_residual.result ≡ None = search rules in
    let word : encode (bit_table row).opcode (R f) ≡ c.word_of-word.result =
    ap (λ n. encode n (R f)) (sym c.opcode.ensures.opcode) ∙ sym c.word_of-word.ensures in (
      λ e. absurd (none-some w (sym nothing ∙ e)),
      λ is. absurd (c.in_err-bits.ensures.outside row f (subst (λ v. IsBits v row f) (is.encoded ∙ word) is)),
    )

-- what is read is the instruction
pub returns-then-eq : goal.returns-then-eq
returns-then-eq c w =
    let row = c.args.instruction.now.row in
    let f = c.args.instruction.now.fields in
    let word : encode (bit_table row).opcode (R f) ≡ c.word_of-word.result =
    ap (λ n. encode n (R f)) (sym c.opcode.ensures.opcode) ∙ sym c.word_of-word.ensures in
    let x = c.in_ok-bits.bits in
    let one_row : x.row ≡ row = same_true the_type tt _ _ (first_of _ _ (sym c.eq.ensures ∙ c.if-eq.true)) in
    let same : x.fields ≡ f = search rules in
    let read : IsBits c.word_of-word.result row f =
    subst (λ y. IsBits c.word_of-word.result y f) one_row (subst (λ y. IsBits c.word_of-word.result x.row y) same c.in_ok-bits.ensures.decoded) in (
      λ e. subst (λ v. IsBits v row f) (same_Some _ _ e) read,
      λ is. ap Some (sym (is.encoded ∙ word)),
    )
