-- The run that the call made is the one that the program makes.
use Rattle.std.proofs.Common.{◌+◌, ◌*◌, ap, ◌∙◌, rules, arith}
use Rattle.std.proofs.lemmas.List.{length-drop}
use Rattle.rrs_programs.proofs.CopyWords.{copied}
use Rattle.rrs_programs.proofs.computing.copy_words.Goals as goal

pub returns : goal.returns
returns g c =
    let executor = c.args.executor.now in
    let words = c.arguments_of_call.ensures.words (g.M.Memory.bytes executor.mem.now) (g.M.Memory.writable executor.mem.now) in
    let limit = ap (λ n. 5 * n + 5) (c.from.ensures ∙ c.read_register-count.ensures (g.M.Memory.bytes executor.mem.now) (g.M.Memory.writable executor.mem.now)) in
    let known = copied _ _ _ _ _
    (omega (arith, length-drop 1 executor.hart_state.now.registers, c.run.ensures.whole)) c.requires words.0 words.1
    (c.run.ensures.ends (omega arith) c.requires.called.aligned) limit c.run.ensures.only in
    record {
      run = rw limit at c.run.ensures.run;
      steps = known.steps_made;
      fault = known.fault;
      copied = known.copies_words;
      rest = search rules;
      accesses = search rules;
    }
