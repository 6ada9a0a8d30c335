-- The run that the call made is the one that the loop makes.
use Rattle.std.proofs.Common.{ap, ◌*◌, ◌∙◌, rules, arith}
use Rattle.tests_host.proofs.CountDown.{counted}
use Rattle.tests_host.proofs.count_down.count_down.Goals as goal

pub returns : goal.returns
returns g c =
    let memory = c.args.executor.now.mem.now in
    let count = c.read_register-count.ensures (g.M.Memory.bytes memory) (g.M.Memory.writable memory) in
    let known = counted _ _ _ _ _ c.requires.pc c.requires.some (omega (arith, count)) c.requires.first c.requires.second
    (ap (λ n. 2 * n) (c.from.ensures ∙ count)) c.run.ensures.only in
    record {
      steps = known.steps_made;
      fault = known.no_fault;
      x1 = known.x1;
      pc = known.pc;
      bytes_kept = known.bytes_kept;
      rest = search rules;
    }
