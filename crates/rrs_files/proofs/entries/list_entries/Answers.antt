use Rattle.std.proofs.Common.{◌≡◌, length, sym, ap, ◌∙◌, arith}
use Rattle.rrs_files.specs.Entries.{NoneYet, OneMore}
use Rattle.rrs_files.proofs.Listing.{goes_on, grows}
use Rattle.rrs_files.proofs.entries.list_entries.Goals as goal

pub loop-count-init : goal.loop-count-init
loop-count-init g c =
    let none : length c.args.text.now.items ≡ 0 = ap length c.requires.empty in
    record {
      added = rw c.requires.empty NoneYet;
      many = omega arith;
      within = omega (arith, none);
    }

pub returns-in-Some : goal.returns-in-Some
returns-in-Some g c = record {
  count = c.loop-count.count;
  before = c.loop-count.text.items;
  now = c.loop-count.folder;
  step = c.add_entry-step.result;
  added = c.loop-count.invariant.added;
  last = c.add_entry-step.ensures;
  ended = sym c.ended_by.ensures ∙ c.in-Some.is;
}

pub loop-count-preserved : goal.loop-count-preserved
loop-count-preserved g c =
    let so_far = c.loop-count.invariant in
    let one = goes_on c.add_entry-step.result _ _ (sym c.ended_by.ensures ∙ c.in-None.is) in
    let more = grows _ _ _ _ _ _ _ _ _ c.add_entry-step.ensures one in
    record {
      added = OneMore c.loop-count.count c.loop-count.text.items _ c.loop-count.folder _ so_far.added
          (rw one at c.add_entry-step.ensures);
      many = omega (arith, so_far.many, more.0);
      within = more.1;
    }

pub returns : goal.returns
returns g c =
    let so_far = c.loop-count.invariant in
    absurd (omega (arith, so_far.many, so_far.within, c.requires.most, c.loop-count-test.false))
