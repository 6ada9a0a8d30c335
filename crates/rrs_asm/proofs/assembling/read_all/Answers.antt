use Rattle.std.proofs.Common.{◌≡◌, ℕ, ◌<◌, List, [], true, length, All, rules, subst, arith}
use Rattle.std.proofs.lemmas.Grind.{common_steps}
use Rattle.rrs_asm.specs.Source.{items_of}
use Rattle.rrs_asm.proofs.Made.{are-made, are-laid-out, all-found, names-length, no-false}
use Rattle.rrs_asm.specs.declared.sections.Section.{Section}
use Rattle.rrs_asm.specs.Sections.{names_of, first_open, ArePlaced, HasItsKind}
use Rattle.rrs_asm.specs.Forms.{IsRead}
use Rattle.rrs_asm.proofs.assembling.read_all.Goals as goal
use Rattle.rrs_asm.proofs.assembling.read_all.Goals.{else-is_empty-via-then-is_empty+else-not-is_right, else-is_empty-via-else-is_empty}

-- all was read without a mistake
pub returns-else-is_empty : goal.returns-else-is_empty
returns-else-is_empty g c = elim c.else-is_empty.branch [
  | else-is_empty-via-then-is_empty+else-not-is_right w ↦ λ good.
      let read : (names : List (List ℕ)) × IsRead names (items_of c.args.source.now) c.read_again-2.new.reading = c.read_again-2.ensures good in
      let right : w.is_right.result ≡ true = search in
      let Below : List (Section _) → Type 0 = λ xs. first_open (names_of xs) < length xs in
      let below : Below c.read_again-2.new.reading.sections.items = subst Below w.deref.ensures.value (w.is_right.ensures.found right) in
      let Kinds : List (Section _) → Type 0 = λ xs. All HasItsKind xs in
      let Placed : List (Section _) → Type 0 = ArePlaced c.args.layout in
      record {
        sections_of = record {
          made = are-made read.0 (items_of c.args.source.now) c.read_again-2.new.reading read.1;
          all_found = (
            λ laid. omega (arith, below, names-length c.read_again-2.new.reading.sections.items),
            all-found read.0 (items_of c.args.source.now) c.read_again-2.new.reading read.1,
          );
          kinds = subst Kinds w.deref.ensures.value (w.is_right.ensures.kinds right);
          placed = subst Placed w.deref.ensures.value (w.is_right.ensures.placed right);
        };
        laid_out = are-laid-out read.0 (items_of c.args.source.now) c.read_again-2.new.reading read.1;
      }
  | else-is_empty-via-else-is_empty w ↦ λ good.
      let none : c.read_again-2.new.reading.errors.items ≡ [] = good.errors in
      let empty : c.is_empty.result ≡ true = first_of (search rules, cc, grind (arith, common_steps)) in
      absurd (no-false c.is_empty.result w.if-is_empty.false empty)
]
