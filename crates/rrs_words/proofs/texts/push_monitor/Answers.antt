-- By the range that the number is in.
use Rattle.std.proofs.Common.{◌≡◌, ◌-◌, ◌++◌, List, ℕ, codes, true, false, sym, ap, ◌∙◌}
use Rattle.std.proofs.lemmas.List.{append_assoc}
use Rattle.std.specs.Fmt.{decimal}
use Rattle.rrs_words.specs.CsrNumbers.{is_from_to}
use Rattle.rrs_words.proofs.texts.push_monitor.Goals as goal

pub returns-then-is_from_to-2-clause-bytes : goal.returns-then-is_from_to-2-clause-bytes
returns-then-is_from_to-2-clause-bytes c =
    let one : is_from_to 0x323 0x33f c.args.number ≡ false = sym c.is_from_to.ensures.same ∙ c.if-is_from_to.false in
    let two : is_from_to 0xb03 0xb1f c.args.number ≡ true =
    sym c.is_from_to-else-is_from_to.ensures.same ∙ c.if-is_from_to-2.true in
    rw one
    (rw two
    (c.push_number-then-is_from_to-2.ensures.bytes
    ∙ append_assoc c.args.text.now.bytes (codes "mhpmcounter") (decimal (c.args.number - 0xb00))))

pub returns-then-is_from_to-3-clause-bytes : goal.returns-then-is_from_to-3-clause-bytes
returns-then-is_from_to-3-clause-bytes c =
    let one : is_from_to 0x323 0x33f c.args.number ≡ false = sym c.is_from_to.ensures.same ∙ c.if-is_from_to.false in
    let two : is_from_to 0xb03 0xb1f c.args.number ≡ false =
    sym c.is_from_to-else-is_from_to.ensures.same ∙ c.if-is_from_to-2.false in
    let three : is_from_to 0xb83 0xb9f c.args.number ≡ true =
    sym c.is_from_to-else-is_from_to-2.ensures.same ∙ c.if-is_from_to-3.true in
    let before = c.args.text.now.bytes in
    let number = decimal (c.args.number - 0xb80) in
    rw one
    (rw two
    (rw three
    (c.push_str.ensures.bytes
    ∙ ap (λ (l : List ℕ). l ++ codes "h") c.push_number-then-is_from_to-3.ensures.bytes
    ∙ append_assoc (before ++ codes "mhpmcounter") number (codes "h")
    ∙ append_assoc before (codes "mhpmcounter") (number ++ codes "h"))))
