-- The head, and the costs.
use Rattle.std.proofs.Common.{◌≡◌, rules}
use Rattle.rrs_reports.proofs.Writing.{begun}
use Rattle.rrs_reports.proofs.callgrind.write_callgrind.Goals as goal

pub returns : goal.returns
returns g c =
    let new = c.write_all_costs.new.out in
    let costs = c.write_all_costs.ensures in
    let name = costs.1.same_out in
    let first = c.write_head.ensures.same_out in
    let same : c.out-1.given.0 ≡ new.out.now = search rules in
    record {
      begins = begun g.W.Write.contents _ c.write_head.new.out new c.out-1.given.0 c.args.path.now c.as_bytes.result.now
          c.as_bytes.ensures.value c.write_head.ensures costs same;
    }
