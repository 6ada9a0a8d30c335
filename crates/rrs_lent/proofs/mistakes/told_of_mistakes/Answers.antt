use Rattle.std.proofs.Common.{◌≡◌, length, refl, arith}
use Rattle.std.proofs.lemmas.Grind.{common_steps}
use Rattle.rrs_lent.proofs.More.{lie-pushed}
use Rattle.rrs_lent.proofs.mistakes.told_of_mistakes.Goals as goal

-- one mistake more is told, and its text lies after the others
pub loop-mistake-preserved : goal.loop-mistake-preserved
loop-mistake-preserved g c =
    let texts = c.loop-mistake.texts.items in
    let own = c.as_bytes-text.result.now in
    let here : c.len.result ≡ length texts = grind (arith, common_steps) in
    record {
      count = grind (arith, common_steps);
      texts = lie-pushed c.loop-mistake.told.items c.push.new.self.items record { line = c.mistake-item.result.line; column = c.mistake-item.result.column; text = c.len.result; length = length own } texts own c.extend_from_slice.new.self.items c.loop-mistake.invariant.texts here c.in_ok-push.ensures.items refl c.in_ok-extend_from_slice.ensures.items;
    }
