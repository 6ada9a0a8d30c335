use Rattle.std.proofs.Common.{◌≡◌, ◌+◌, arith}
use Rattle.rrs_files.proofs.serving.moment_in.Goals as goal

pub returns : goal.returns
returns c = λ memory a stands.
    let fourth : a + (c.args.at + 4) ≡ a + c.args.at + 4 = omega arith in
    let eighth : a + (c.args.at + 8) ≡ a + c.args.at + 8 = omega arith in
    record {
      low = c.word_in-low.result;
      high = c.word_in-high.result;
      low_there = c.word_in-low.ensures memory a stands;
      high_there = rw fourth at (c.word_in-high.ensures memory a stands);
      is_seconds = omega (arith, c.from.ensures, c.from-2.ensures);
      nanos_there = rw eighth at (c.word_in.ensures memory a stands);
    }
