use Rattle.std.proofs.Common.{◌≡◌, ◌<◌, List, [], ◌∷◌, ◌++◌, length, get_or, All, rules, sym, subst, arith}
use Rattle.std.proofs.lemmas.Grind.{common_steps}
use Rattle.rrs_asm_output.specs.declared.mistakes.Mistake.{Mistake}
use Rattle.rrs_asm_output.specs.Mistakes.{IsOfOne}
use Rattle.rrs_asm_output.proofs.Told.{told-more}
use Rattle.rrs_asm_output.proofs.mistakes.mistakes_of.Goals as goal

-- the first is told
pub returns-clause-places : goal.returns-clause-places
returns-clause-places g c =
    let items : c.push.new.self.items ≡ c.in_ok-told.told.items ++ c.in_ok-mistake_at.field-0 ∷ [] = c.in_ok-push.ensures.items in
    let below : 0 < length c.args.errors.now = first_of (search rules, grind (arith, common_steps)) in
    let same : c.in-Some.first.now ≡ get_or c.args.errors.now 0 c.in-Some.first.now = first_of (search rules, grind (arith, common_steps)) in
    let Told : List (Mistake _) → Type 0 = All (IsOfOne c.args.numbers.now c.args.errors.now) in
    subst Told (sym items) (told-more c.args.numbers.now c.args.errors.now c.in_ok-told.told.items c.in_ok-mistake_at.field-0 0 c.in-Some.first.now c.in-Some.first.now below same c.in_ok-mistake_at.ensures c.in_ok-told.ensures.places)
