-- The costs of one function more.
use Rattle.rrs_reports.proofs.Writing.{some_both}
use Rattle.rrs_reports.specs.Profiles.{WritesSome}
use Rattle.rrs_reports.proofs.callgrind.write_all_costs.Goals as goal
use Rattle.rrs_reports.proofs.callgrind.write_all_costs.Goals.{then-elsewhere-gt0, else-elsewhere-gt0, then-covered-gt0, else-covered-gt0}

pub loop-index-preserved : goal.loop-index-preserved
loop-index-preserved g c =
    let contents = g.W.Write.contents in
    let a = c.if-elsewhere-gt0.out in
    elim c.if-covered-gt0.branch [
      | then-covered-gt0 w ↦ rw (w.out-is) (some_both contents a c.loop-index.out
          w.write_costs-then-covered-gt0.new.out c.loop-index.invariant w.write_costs-then-covered-gt0.ensures)
      | else-covered-gt0 w ↦ rw (w.out-is) c.loop-index.invariant
    ]

pub returns : goal.returns
returns g c =
    let contents = g.W.Write.contents in
    let a = c.args.out.now in
    let b = c.if-elsewhere-gt0.out in
    let first : WritesSome contents a b = elim c.if-elsewhere-gt0.branch [
      | then-elsewhere-gt0 w ↦ rw (w.out-is) (some_both contents a c.write_costs.new.out w.write_steps.new.out
          c.write_costs.ensures w.write_steps.ensures)
      | else-elsewhere-gt0 w ↦ rw (w.out-is) c.write_costs.ensures
    ] in
    some_both contents a b c.loop-index.out first c.loop-index.invariant
