-- The run that the call made is the one that the program makes.
use Rattle.std.proofs.Common.{◌+◌, ◌*◌, ap, ◌∙◌, rules, arith}
use Rattle.std.proofs.lemmas.List.{length-drop}
use Rattle.rrs_extra.proofs.SumLoop.{summed}
use Rattle.rrs_extra.proofs.laws.summing.sum_loop.Goals as goal

pub returns : goal.returns
returns g c =
    let executor = c.args.executor.now in
    let from = c.read_register.ensures (g.M.Memory.bytes executor.mem.now) (g.M.Memory.writable executor.mem.now) in
    let limit = ap (λ n. 6 * n + 3) (c.from.ensures ∙ c.read_register-count.ensures (g.M.Memory.bytes executor.mem.now) (g.M.Memory.writable executor.mem.now)) in
    let known = summed _ _ _ _ _ (omega (arith, length-drop 1 executor.hart_state.now.registers, c.run.ensures.whole)) c.requires (omega (arith, from, c.read_register.type_inv)) (c.run.ensures.ends (omega arith) (omega (arith, c.requires.pc))) limit c.run.ensures.only in
    record {
      run = rw limit at c.run.ensures.run;
      steps = known.steps_made;
      fault = known.fault;
      sum = known.sum;
      bytes_kept = known.bytes_kept;
      rest = search rules;
      accesses = search rules;
    }
