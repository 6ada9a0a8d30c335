-- One byte more.
use Rattle.std.proofs.Common.{ℕ, ◌+◌, Option, sym, ap, ◌∙◌, arith}
use Rattle.rrs_gdb.proofs.ShownLemmas.{byte_more}
use Rattle.rrs_gdb.proofs.contents.read_memory.Goals as goal

pub loop-index-preserved : goal.loop-index-preserved
loop-index-preserved g c =
    let i = c.loop-index.invariant in
    let kept = c.byte_behind.ensures in
    let same = ap (λ (f : ℕ → Option ℕ). f (c.args.address + c.loop-index.index)) i.bytes_kept in
    let more =
    byte_more (g.M.Memory.bytes c.args.memory.now) c.args.address c.loop-index.index _ _ _ i.read i.long
    (sym same ∙ c.in-Some.ensures.read) c.in_ok-push.ensures.items in
    record {
      read = more.0;
      long = more.1;
      bytes_kept = kept.bytes_kept ∙ i.bytes_kept;
      writable_kept = kept.writable_kept ∙ i.writable_kept;
      layout_kept = kept.layout_kept ∙ i.layout_kept;
    }

pub returns-clause-ended : goal.returns-clause-ended
returns-clause-ended g c = λ short within.
    absurd (omega (arith, short, c.loop-index-test.false, c.loop-index.invariant.long))

pub returns-in_default-clause-ended : goal.returns-in_default-clause-ended
returns-in_default-clause-ended g c = λ short within.
    let i = c.loop-index.invariant in
    let same = ap (λ (f : ℕ → Option ℕ). f (c.args.address + c.loop-index.index)) i.bytes_kept in
    rw i.long (sym same ∙ c.in_default.ensures.none (omega (arith, within, i.long)))
