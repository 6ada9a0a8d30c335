use Rattle.std.proofs.Common.{◌≡◌, ℕ, suc, ◌+◌, ◌-◌, length, ap, sym, subst, ◌∙◌, arith}
use Rattle.rrs_asm_macros.specs.Symbols.{Defines, so_many_labels}
use Rattle.rrs_asm_macros.proofs.Names.{both, no_more, none_more, one_more}
use Rattle.rrs_asm_macros.proofs.symbols.Symbols.note_labels.Goals as goal

pub loop-passed-preserved : goal.loop-passed-preserved
loop-passed-preserved g c = λ final rest.
    let one : length c.args.code.now - c.loop-passed._passed ≡ suc (length c.args.code.now - (c.loop-passed._passed + 1)) = omega (arith, c.loop-passed-test.true) in
    let more = one_more (length c.args.code.now - (c.loop-passed._passed + 1)) c.loop-passed.rest.now c.in-Some.name.now c.in-Some.others.now c.in-Some.ensures in
    c.loop-passed.invariant final (subst (λ names. Defines c.loop-passed.self final names)
    (sym (ap (λ n. so_many_labels n c.loop-passed.rest.now) one ∙ more))
    (both _ _ _ _ _ c.define.ensures.others rest))

pub returns-in-None : goal.returns-in-None
returns-in-None g c = c.loop-passed.invariant c.loop-passed.self
    (subst (λ names. Defines c.loop-passed.self c.loop-passed.self names)
    (sym (no_more _ c.loop-passed.rest.now c.in-None.ensures)) (none_more c.loop-passed.self))
