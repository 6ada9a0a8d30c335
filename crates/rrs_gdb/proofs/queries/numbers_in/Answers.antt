-- Number by number.
use Rattle.std.proofs.Common.{◌≡◌, ◌≢◌, [], length, rules}
use Rattle.rrs_gdb.specs.Packets.{IsNumber, number}
use Rattle.rrs_gdb.proofs.FieldLemmas.{nothing_left, number_more, number_next, number_none, numbers_all}
use Rattle.rrs_gdb.proofs.queries.numbers_in.Goals as goal

pub numbers-preserved : goal.numbers-preserved
numbers-preserved c =
    let rest = c.numbers.rest.now in
    let some : rest ≢ [] = search rules in
    let parts = c.cut_or_all.ensures.parts in
    let is : IsNumber c.cut_or_all.result.0.now × (c.in-Some.number ≡ number c.cut_or_all.result.0.now) = search rules in
    record {
      made = number_more c.numbers.numbers.items c.push.new.self.items c.args.text.now rest c.cut_or_all.result.0.now
          c.cut_or_all.result.1.now c.in-Some.number c.numbers.invariant.made some parts.0 parts.1 is.0 is.1 (search rules);
      all = number_next c.numbers.numbers.items c.push.new.self.items c.args.text.now rest c.cut_or_all.result.0.now
          c.cut_or_all.result.1.now c.in-Some.number c.numbers.invariant.all some parts.0 parts.1 is.1 (search rules);
    }

pub returns-in_default : goal.returns-in_default
returns-in_default c =
    let rest = c.numbers.rest.now in
    let some : rest ≢ [] = search rules in
    let none : ¬ IsNumber c.cut_or_all.result.0.now = search rules in
    number_none c.numbers.numbers.items c.args.text.now rest c.cut_or_all.result.0.now c.numbers.invariant.all some
    c.cut_or_all.ensures.parts.0 none

pub returns : goal.returns
returns c =
    let none : length c.numbers.rest.now ≡ 0 = search rules in
    let ended : c.numbers.rest.now ≡ [] = nothing_left c.numbers.rest.now none in
    numbers_all c.numbers.numbers.items c.args.text.now c.numbers.rest.now c.numbers.invariant.made ended
