use Rattle.std.proofs.Common.{◌≡◌, ◌+◌, ◌*◌, ap, ◌∙◌, arith}
use Rattle.rrs_lib.specs.Bytes.{little_endian}
use Rattle.rrs_linux.proofs.Vectored.{piece_more, piece_short, pieces_all}
use Rattle.rrs_linux.proofs.pieces.write_each.Goals as goal

pub returns-then-answer-wanted-clause-taken : goal.returns-then-answer-wanted-clause-taken
returns-then-answer-wanted-clause-taken g c = λ a n stands long.
    let so_far = c.loop-index.invariant in
    let bytes = g.M.Memory.bytes c.args.memory.now in
    let place : a + 8 * c.loop-index.index + 4 ≡ a + (8 * c.loop-index.index + 4) = omega arith in
    piece_short c.word_of-base.result c.word_of-size.result c.min-wanted.result c.write_from-answer.result
    c.together.result c.write_from-answer.new.self c.write_from-answer.new.memory _ (so_far.so_far a n stands long)
    (omega (arith, long, c.loop-index-test.true)) so_far.bytes_kept
    (record {
      base_there = c.word_of-base.ensures bytes a stands;
      size_there = ap (λ x. little_endian bytes x 4) place ∙ c.word_of-size.ensures bytes a stands;
    }) c.min-wanted.ensures c.if-answer-wanted.true c.together.ensures c.write_from-answer.ensures.taken

pub loop-index-preserved : goal.loop-index-preserved
loop-index-preserved g c =
    let so_far = c.loop-index.invariant in
    let bytes = g.M.Memory.bytes c.args.memory.now in
    let call = c.write_from-answer.ensures in
    record {
      within = omega (arith, so_far.within, c.min-wanted.ensures);
      so_far = λ a n stands long.
          let place : a + 8 * c.loop-index.index + 4 ≡ a + (8 * c.loop-index.index + 4) = omega arith in
          piece_more c.word_of-base.result c.word_of-size.result c.min-wanted.result c.write_from-answer.result
          c.write_from-answer.new.self c.write_from-answer.new.memory _ (so_far.so_far a n stands long)
          (omega (arith, long, c.loop-index-test.true)) so_far.bytes_kept
          (record {
            base_there = c.word_of-base.ensures bytes a stands;
            size_there = ap (λ x. little_endian bytes x 4) place ∙ c.word_of-size.ensures bytes a stands;
          }) c.min-wanted.ensures c.if-answer-wanted.false call.taken;
      bytes_kept = call.bytes_kept ∙ so_far.bytes_kept;
      writable_kept = call.writable_kept ∙ so_far.writable_kept;
      layout_kept = call.layout_kept ∙ so_far.layout_kept;
    }

pub returns-clause-taken : goal.returns-clause-taken
returns-clause-taken g c = λ a n stands long.
    pieces_all (c.loop-index.invariant.so_far a n stands long)
    (omega (arith, long, c.loop-index-test.false, c.loop-index.auto.index-end))
