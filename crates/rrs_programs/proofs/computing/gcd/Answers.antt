-- The run that the call made is the one that the program makes.
use Rattle.std.proofs.Common.{◌+◌, ◌*◌, ap, ◌∙◌, rules, arith}
use Rattle.std.proofs.lemmas.List.{length-drop}
use Rattle.rrs_programs.proofs.CommonDivisors.{divided}
use Rattle.rrs_programs.proofs.computing.gcd.Goals as goal

pub returns : goal.returns
returns g c =
    let executor = c.args.executor.now in
    let divisor = c.read_register-divisor.ensures (g.M.Memory.bytes executor.mem.now) (g.M.Memory.writable executor.mem.now) in
    let limit = ap (λ n. 5 * n + 3) (c.from.ensures ∙ divisor) in
    let known = divided _ _ _ _ _
    (omega (arith, length-drop 1 executor.hart_state.now.registers, c.run.ensures.whole)) c.requires
    (omega (arith, divisor, c.read_register-divisor.type_inv)) (c.run.ensures.ends (omega arith) c.requires.aligned) limit c.run.ensures.only in
    record {
      run = rw limit at c.run.ensures.run;
      steps = known.steps_made;
      fault = known.fault;
      divisor = known.divisor;
      bytes_kept = known.bytes_kept;
      rest = search rules;
      accesses = search rules;
    }
