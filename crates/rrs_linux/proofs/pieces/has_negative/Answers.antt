use Rattle.std.proofs.Common.{◌≡◌, ◌+◌, ◌*◌, ap, ◌∙◌, arith}
use Rattle.rrs_lib.specs.Bytes.{little_endian}
use Rattle.rrs_linux.proofs.Vectored.{none_more}
use Rattle.rrs_linux.proofs.pieces.has_negative.Goals as goal

pub returns-then-word_of-clause-some : goal.returns-then-word_of-clause-some
returns-then-word_of-clause-some c = λ bytes a n stands long.
    let place : a + 8 * c.loop-index.index + 4 ≡ a + (8 * c.loop-index.index + 4) = omega arith in
    record {
      index = c.loop-index.index;
      within = omega (arith, long, c.loop-index-test.true);
      size = c.word_of.result;
      size_there = ap (λ x. little_endian bytes x 4) place ∙ c.word_of.ensures bytes a stands;
      negative = omega (arith, c.if-word_of.true);
    }

pub loop-index-preserved : goal.loop-index-preserved
loop-index-preserved c = λ bytes a stands.
    none_more bytes a c.loop-index.index c.word_of.result (c.loop-index.invariant bytes a stands)
    (c.word_of.ensures bytes a stands) (omega (arith, c.if-word_of.false))
