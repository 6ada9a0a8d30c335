use Rattle.std.proofs.Common.{◌≡◌, ◌+◌, [], get_or, arith, rules, length-drop}
use Rattle.std.proofs.lemmas.List.{take_rest}
use Rattle.rrs_asm_macros.specs.Expansion.Expands.{Over}
use Rattle.rrs_asm_macros.proofs.Becoming.{keeps, repeats, before-other, within-one}
use Rattle.rrs_asm_macros.proofs.following.+follow.Goals as goal

pub line-init : goal.line-init
line-init t c = record { before = omega arith; within = omega arith; become = Over }

pub line-preserved-in-Plain : goal.line-preserved-in-Plain
line-preserved-in-Plain t c =
    let same : (get_or c.args.made.now c.line.at (record { ref_ptr = (0, 0); now = [] })).now ≡ (get_or c.args.rows.now c.line.row (record { ref_ptr = (0, 0); now = [] })).now = search rules in record {
      before = omega arith;
      within = omega arith;
      become = keeps c.args.rows.now c.args.made.now c.line.row c.line.at _ _ c.line-test.true (omega arith) c.in-Plain.ensures same c.line.invariant.become;
    }

pub line-preserved : goal.line-preserved
line-preserved t c =
    let up = rw (take_rest c.args.rows.now (c.line.row + 1), take_rest c.args.made.now c.line.at) at c.in-Up.ensures in
    let copies = rw (take_rest c.args.made.now c.line.at) at c.in-Some.ensures in record {
      before = omega (arith, up.0, length-drop (c.line.row + 1) c.args.rows.now);
      within = omega (arith, copies.0, length-drop c.line.at c.args.made.now, c.line.invariant.within);
      become = repeats c.args.rows.now c.args.made.now c.line.row c.line.at c.in-Up.inside c.in-Up.size c.in-Some.total c.in-Repeat.copies _ c.line-test.true c.in-Repeat.ensures up.2 up.3 copies.1 c.line.invariant.become;
    }

pub returns-in-Unsaid : goal.returns-in-Unsaid
returns-in-Unsaid t c =
    within-one c.args.rows.now c.args.made.now c.line.row c.line.at c.in-Repeat.copies _ c.line-test.true c.in-Repeat.ensures
    (rw (take_rest c.args.rows.now (c.line.row + 1), take_rest c.args.made.now c.line.at) at c.in-Unsaid.ensures) c.line.invariant.become

pub returns-in-Other : goal.returns-in-Other
returns-in-Other t c = before-other c.args.rows.now c.args.made.now c.line.row c.line.at _ c.line-test.true c.in-Other.ensures c.line.invariant.become
