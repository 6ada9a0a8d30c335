use Rattle.std.proofs.Common.{◌≡◌, ℕ, suc, ◌+◌, ◌-◌, length, subst, ◌∙◌, arith}
use Rattle.rrs_asm_macros.specs.Scanning.{behind_so_many}
use Rattle.rrs_asm_macros.proofs.Labels.{one_label}
use Rattle.rrs_asm_macros.proofs.scanning.behind_labels.Goals as goal

pub loop-passed-preserved : goal.loop-passed-preserved
loop-passed-preserved c =
    let one : length c.args.code.now - c.loop-passed._passed ≡ suc (length c.args.code.now - (c.loop-passed._passed + 1)) = omega (arith, c.loop-passed-test.true) in
    let P : ℕ → Type 0 = λ n. behind_so_many (length c.args.code.now) c.args.code.now ≡ behind_so_many n c.loop-passed.rest.now in
    subst P one c.loop-passed.invariant ∙ one_label _ c.loop-passed.rest.now c.in-Some.field-0-0.now c.in-Some.others.now c.in-Some.ensures
