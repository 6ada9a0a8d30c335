use Rattle.std.proofs.Common.{◌≡◌, ◌+◌, ◌<◌, length, take, get_or, true, sym, ap, ◌∙◌, arith}
use Rattle.std.proofs.lemmas.List.{take_more, length-take-le}
use Rattle.rrs_memory.proofs.LoadLemmas.{Loaded-next}
use Rattle.rrs_gdb.proofs.ShownLemmas.{on_true}
use Rattle.rrs_gdb.proofs.contents.write_all.Goals as goal

pub loop-index-preserved : goal.loop-index-preserved
loop-index-preserved g c =
    let memory = g.M.Memory in
    let so_far = c.loop-index.invariant in
    let wrote = c.write_mem-granted.ensures.laws in
    let values = c.args.values.now in
    let i = c.loop-index.index in
    let below : i < length values = omega (arith, c.loop-index-test.true, c.loop-index.auto.index-end) in
    let more = take_more values i 0 below in
    let long : length (take i values) ≡ i = length-take-le i values (omega (arith, below)) in
    let place : c.args.address + i + 0 ≡ c.args.address + i = omega arith in
    let allowed : memory.writable c.loop-index.memory (c.args.address + i + 0) ≡ true =
    ap (λ w. w (c.args.address + i + 0)) so_far.writable_kept ∙ ap (memory.writable c.args.memory.now) place
    ∙ c.requires.writable i below in
    record {
      written = rw more (Loaded-next _ _ _ _ _ _ (get_or values i 0) _ _ (take i values) so_far.written
          (omega (arith, long)) (omega (arith, below, c.requires.within)) (omega (arith, c.type_inv.values i))
          c.from.ensures so_far.writable_kept (sym allowed) wrote.lawful
          (on_true _ _ (wrote.granted ∙ allowed) wrote.written));
      writable_kept = wrote.writable_kept ∙ so_far.writable_kept;
      layout_kept = wrote.layout_kept ∙ so_far.layout_kept;
    }
