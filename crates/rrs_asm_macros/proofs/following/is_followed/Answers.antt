use Rattle.std.proofs.Common.{◌≡◌, length, rules}
use Rattle.rrs_asm_macros.proofs.Becoming.{whole}
use Rattle.rrs_asm_macros.proofs.following.is_followed.Goals as goal

pub returns-in-All : goal.returns-in-All
returns-in-All c = λ yes.
    let end : c.in-All.at ≡ length c.args.made.now = search rules in
    whole c.args.rows.now c.args.made.now c.in-All.at end c.in-All.ensures.1
