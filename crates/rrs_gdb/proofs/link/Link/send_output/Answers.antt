-- Part by part.
use Rattle.std.proofs.Common.{◌≤◌, ◌++◌, [], List, ℕ, length, refl, ◌∙◌, ap, sym, append_assoc, arith}
use Rattle.rrs_gdb.proofs.OutputLemmas.{prints_none, prints_part}
use Rattle.rrs_gdb.proofs.link.Link.send_output.Goals as goal

pub parts-init : goal.parts-init
parts-init g c = record {
  sent = ([], refl, prints_none g.W.Write.contents c.args.self.now);
  reader = refl;
  acknowledges = refl;
}

pub parts-preserved : goal.parts-preserved
parts-preserved g c =
    let done = c.parts.invariant.sent.0 in
    let part = c.split_at.result.0.now in
    let few : length part ≤ 2048 = omega (arith, c.split_at.ensures.front_len, c.min.ensures) in
    record {
      sent = (
        done ++ part,
        c.parts.invariant.sent.1 ∙ ap (λ (xs : List ℕ). done ++ xs) c.split_at.ensures.by_index.0
            ∙ sym (append_assoc done part c.split_at.result.1.now),
        prints_part g.W.Write.contents c.args.self.now c.parts.self c.send_part.new.self done part few
            c.parts.invariant.sent.2 c.in_ok-send_part.ensures.sent,
      );
      reader = c.send_part.ensures.reader ∙ c.parts.invariant.reader;
      acknowledges = c.send_part.ensures.acknowledges ∙ c.parts.invariant.acknowledges;
    }
