use Rattle.std.proofs.Common.{◌≡◌, [], get_or, arith, rules}
use Rattle.rrs_asm_macros.proofs.Becoming.{begins-more}
use Rattle.rrs_asm_macros.proofs.following.begins_with.Goals as goal

pub loop-index-preserved : goal.loop-index-preserved
loop-index-preserved c =
    let same : (get_or c.args.rows.now c.loop-index.index (record { ref_ptr = (0, 0); now = [] })).now ≡ (get_or c.args.first.now c.loop-index.index (record { ref_ptr = (0, 0); now = [] })).now = search rules in
    begins-more c.args.rows.now c.args.first.now c.loop-index.index _ _ c.loop-index-test.true (omega arith) c.loop-index.invariant same
