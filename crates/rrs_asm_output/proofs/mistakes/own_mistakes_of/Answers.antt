use Rattle.std.proofs.Common.{◌≡◌, ◌≤◌, length, List, [], ◌∷◌, ◌++◌, All, rules, refl, sym, subst, arith}
use Rattle.std.proofs.lemmas.Grind.{common_steps}
use Rattle.rrs_asm_output.specs.declared.mistakes.Mistake.{Mistake}
use Rattle.rrs_asm_output.specs.Mistakes.{IsOfOne}
use Rattle.rrs_asm_output.proofs.Told.{told-more}
use Rattle.rrs_asm_output.proofs.mistakes.own_mistakes_of.Goals as goal

-- one more is told, where the error stands
pub loop-error-preserved : goal.loop-error-preserved
loop-error-preserved g c =
    let items : c.push-in-loop-error.new.self.items ≡ c.loop-error.told.items ++ c.in_ok-mistake_at.field-0 ∷ [] = c.in_ok-push-2.ensures.items in
    let most : length c.push-in-loop-error.new.self.items ≤ 20 = first_of (search rules, grind (arith, common_steps)) in
    let Told : List (Mistake _) → Type 0 = All (IsOfOne c.args.numbers.now c.args.errors.now) in (
      most,
      subst Told (sym items) (told-more c.args.numbers.now c.args.errors.now c.loop-error.told.items c.in_ok-mistake_at.field-0 c.loop-error.error-index _ _ c.loop-error-test.true refl c.in_ok-mistake_at.ensures c.loop-error.invariant.1),
    )
