use Rattle.std.proofs.Common.{refl, sym, ◌∙◌}
use Rattle.rrs_files.specs.Acts.{IsControlled, IsCopying}
use Rattle.rrs_files.proofs.files.Files.control.Goals as goal

pub returns-then-copies : goal.returns-then-copies
returns-then-copies g c = IsCopying (sym c.copies.ensures ∙ c.if-copies.true) c.copy.ensures

pub returns-in-Some : goal.returns-in-Some
returns-in-Some g c =
    IsControlled c.in-Some.field-0 c.in-Some.ensures (sym c.copies.ensures ∙ c.if-copies.false) refl
    (rw c.flags_of.ensures at c.answer_to.ensures)
