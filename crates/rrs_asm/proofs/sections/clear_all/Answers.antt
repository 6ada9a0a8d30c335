use Rattle.std.proofs.Common.{◌≤◌, length, rules, arith}
use Rattle.std.proofs.lemmas.Grind.{common_steps}
use Rattle.rrs_asm.proofs.sections.clear_all.Goals as goal

-- there is no other
pub returns : goal.returns
returns g c =
    let most : length c.loop-index.sections.items ≤ c.loop-index.index = first_of (search rules, omega arith, grind (arith, common_steps)) in
    λ k d below. c.loop-index.invariant.1 k d (omega (arith, most))
