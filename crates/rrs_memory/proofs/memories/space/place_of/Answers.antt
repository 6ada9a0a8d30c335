use Rattle.std.proofs.Common.{◌+◌, ◌-◌, ◌/◌, ◌<◌, length, ap, arith}
use Rattle.rrs_memory.proofs.SearchOrder.{along, span_read}
use Rattle.rrs_memory.proofs.memories.space.place_of.Goals as goal

pub loop-low-preserved-then-regions-by_base : goal.loop-low-preserved-then-regions-by_base
loop-low-preserved-then-regions-by_base g c =
    let old = c.loop-low.invariant in
    let within : c.loop-low.low + (c.loop-low.high - c.loop-low.low) / 2 < length c.args.by_base.now = omega (arith, old.room, c.loop-low-test.true) in
    let base = ap (λ p. p.0) (span_read c.args.regions.now c.args.by_base.now c.requires _ c.index-regions-by_base.result within) in
    record {
      order = omega (arith, c.loop-low-test.true);
      room = old.room;
      before = λ j early. omega (arith, (along _ _ j _ c.requires (omega arith) within).0, base, c.if-regions-by_base.true);
      after = old.after;
    }

pub loop-low-preserved : goal.loop-low-preserved
loop-low-preserved g c =
    let old = c.loop-low.invariant in
    let within : c.loop-low.low + (c.loop-low.high - c.loop-low.low) / 2 < length c.args.by_base.now = omega (arith, old.room, c.loop-low-test.true) in
    let base = ap (λ p. p.0) (span_read c.args.regions.now c.args.by_base.now c.requires _ c.index-regions-by_base.result within) in
    record {
      order = omega arith;
      room = omega (arith, within);
      before = old.before;
      after = λ j late below. omega (arith, (along _ _ _ j c.requires late below).0, base, c.if-regions-by_base.false);
    }
