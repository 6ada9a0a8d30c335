use Rattle.std.proofs.Common.{◌≤◌}
use Rattle.rrs_asm_macros.proofs.Mapping.{one_line, mapped}
use Rattle.rrs_asm_macros.specs.Expanding.{IsWithin}
use Rattle.rrs_asm_macros.proofs.expanding.read_all.Goals as goal
use Rattle.rrs_asm_macros.proofs.expanding.read_all.Goals.{else-loop-test, then-loop-test+then-expansion, then-loop-test+else-expansion+in_default}

pub loop-init : goal.loop-init
loop-init g c = record { made = c.new-out.ensures c.height-total.result; within = λ w. w }

pub loop-preserved : goal.loop-preserved
loop-preserved g c =
    let one : 1 ≤ c.height-total.result = rw c.height-total.ensures (one_line c.args.source.now) in
    record {
      made = c.in_ok-advance.ensures.made one c.loop.invariant.made;
      within = λ w. let before = c.loop.invariant.within w in
          c.in_ok-advance.ensures.within
          (record { most = before.most; fewer = before.fewer });
    }

pub returns-in-Ok-clause-mapped : goal.returns-in-Ok-clause-mapped
returns-in-Ok-clause-mapped g c =
    let one : 1 ≤ c.height-total.result = rw c.height-total.ensures (one_line c.args.source.now) in
    let whole = c.in-Ok.ensures one c.loop.invariant.made in
    c.settled.ensures.mapped (mapped c.args.source.now c.height-total.result c.in-Ok.whole c.height-total.ensures whole.0 whole.1)

pub returns-in-Some-fault-clause-mistakes : goal.returns-in-Some-fault-clause-mistakes
returns-in-Some-fault-clause-mistakes g c = λ w.
    let before = c.loop.invariant.within w in
    let within : IsWithin c.loop-test.expansion = elim c.loop-test.branch [
      | else-loop-test v ↦ rw v.expansion-is before
      | then-loop-test+then-expansion v ↦ rw v.expansion-is before
      | then-loop-test+else-expansion+in_default v ↦ rw v.expansion-is (record { most = before.most; fewer = before.fewer })
    ] in
    c.in-Some-fault.ensures.mistakes within
