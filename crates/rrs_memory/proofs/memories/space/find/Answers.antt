use Rattle.std.proofs.Common.{◌+◌, ◌-◌, ◌/◌, ◌<◌, length, ap, sym, ◌∙◌, arith}
use Rattle.rrs_memory.specs.Spaces.{bounds, binary_digits}
use Rattle.rrs_memory.specs.SpaceFields.{region_of}
use Rattle.rrs_memory.proofs.RegionFields.{refuted}
use Rattle.rrs_memory.proofs.SearchOrder.{digits_room, halved, one_round, order_few, along, span_read, field_at, order_within, field_ended, none_left}
use Rattle.rrs_memory.proofs.memories.space.find.Goals as goal

pub loop-low-init : goal.loop-low-init
loop-low-init g c = record {
  room = omega arith;
  before = λ j none below. absurd (omega arith);
  after = λ j past below. absurd (omega arith);
  digits = omega arith;
  left = digits_room (length c.args.by_base.now) (length c.args.regions.now) (order_few _ _ c.requires);
  fewer = omega arith;
  ruled_out = omega arith;
  some = λ none. omega arith;
}

pub returns-then-contains-clause-region : goal.returns-then-contains-clause-region
returns-then-contains-clause-region g c =
    let within : c.loop-low.low + (c.loop-low.high - c.loop-low.low - 1) / 2 < length c.args.by_base.now = omega (arith, c.loop-low.invariant.room, c.loop-low-test.true) in
    let lies = c.contains.ensures.0 c.if-contains.true in
    let inside = order_within _ _ c.requires _ within in
    field_at c.args.regions.now _ c.args.addr c.index-regions-index.result inside c.index-regions-index.is lies.0 lies.1 (omega arith)

pub loop-low-preserved-then-region-addr : goal.loop-low-preserved-then-region-addr
loop-low-preserved-then-region-addr g c =
    let low = c.loop-low.low in
    let high = c.loop-low.high in
    let middle = low + (high - low - 1) / 2 in
    let old = c.loop-low.invariant in
    let within : middle < length c.args.by_base.now = omega (arith, old.room, c.loop-low-test.true) in
    let half = halved (high - low) (high - (middle + 1)) (binary_digits (length c.args.regions.now)) c.loop-low.compared (omega (arith, c.loop-low-test.true)) old.left (omega arith) in
    let outside = refuted _ c.if-contains.false c.contains.ensures in
    let ended = field_ended _ _ c.requires middle _ _ within c.index-regions-index.is c.if-region-addr.true outside in
    record {
      room = old.room;
      before = λ j early below. omega (arith, (along _ _ j middle c.requires (omega arith) within).1, ended);
      after = old.after;
      digits = omega (arith, half.0, old.digits);
      left = half.1;
      ruled_out = one_round _ (high - low) _ c.loop-low.compared (omega arith) old.ruled_out;
      fewer = omega (arith, old.fewer, c.loop-low-test.true);
      some = λ none. absurd (omega arith);
    }

pub loop-low-preserved : goal.loop-low-preserved
loop-low-preserved g c =
    let low = c.loop-low.low in
    let high = c.loop-low.high in
    let middle = low + (high - low - 1) / 2 in
    let old = c.loop-low.invariant in
    let within : middle < length c.args.by_base.now = omega (arith, old.room, c.loop-low-test.true) in
    let half = halved (high - low) (middle - low) (binary_digits (length c.args.regions.now)) c.loop-low.compared (omega (arith, c.loop-low-test.true)) old.left (omega arith) in
    let span = span_read _ _ c.requires middle _ within ∙ ap (λ r. bounds (region_of r)) (sym c.index-regions-index.is) in
    record {
      room = omega (arith, within);
      before = old.before;
      after = λ j late below. omega (arith, (along _ _ middle j c.requires late below).0, ap (λ p. p.0) span, c.if-region-addr.false);
      digits = omega (arith, half.0, old.digits);
      left = half.1;
      ruled_out = one_round _ (high - low) _ c.loop-low.compared (omega arith) old.ruled_out;
      fewer = omega (arith, old.fewer, c.loop-low-test.true);
      some = λ none. absurd (omega arith);
    }

pub returns-clause-region : goal.returns-clause-region
returns-clause-region g c =
    none_left _ _ c.requires _ _ _ c.loop-low-test.false c.loop-low.invariant.before c.loop-low.invariant.after
