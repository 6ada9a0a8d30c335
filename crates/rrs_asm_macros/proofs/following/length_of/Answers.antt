use Rattle.std.proofs.Common.{◌≡◌, ◌≤◌, length, take, drop, sym, arith, rules, length-drop}
use Rattle.std.proofs.lemmas.List.{take_rest, length-take-le}
use Rattle.rrs_asm_macros.specs.Forms.{texts}
use Rattle.rrs_asm_macros.proofs.Becoming.{copied-none, copies-more}
use Rattle.rrs_asm_macros.proofs.following.length_of.Goals as goal

pub returns-then-size-eq0 : goal.returns-then-size-eq0
returns-then-size-eq0 c =
    let none : c.args.size ≡ 0 = search rules in
    (omega arith, rw none (sym (copied-none c.args.copies)))

pub loop-copy-preserved : goal.loop-copy-preserved
loop-copy-preserved c =
    let long : length (take c.args.size c.args.made.now) ≡ c.args.size = length-take-le c.args.size c.args.made.now c.requires in
    let both : (c.args.size ≤ length (drop c.loop-copy.total c.args.made.now)) × (texts (take c.args.size (drop c.loop-copy.total c.args.made.now)) ≡ texts (take c.args.size c.args.made.now)) =
    rw (take_rest c.args.made.now c.loop-copy.total, long) at (c.begins_with.ensures c.if-not-begins_with.false) in record {
      within = omega (arith, both.0, length-drop c.loop-copy.total c.args.made.now, c.loop-copy.invariant.within);
      same = copies-more c.args.made.now c.loop-copy.total c.args.size c.loop-copy.copy c.loop-copy.invariant.same both.1;
    }
