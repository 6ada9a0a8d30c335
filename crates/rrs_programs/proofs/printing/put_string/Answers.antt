-- The run that the call made is the one that the program makes.
use Rattle.std.proofs.Common.{◌≡◌, ◌+◌, ◌*◌, length, rules, arith}
use Rattle.std.proofs.lemmas.List.{length-drop}
use Rattle.rrs_programs.proofs.PutString.{put_all}
use Rattle.rrs_extra.proofs.Words.{value-small}
use Rattle.rrs_programs.proofs.printing.put_string.Goals as goal

pub returns : goal.returns
returns g c =
    let executor = c.args.executor.now in
    let ends = c.run.ensures.ends (omega arith) c.requires.called.aligned in
    let less = value-small _ _ _ 0 ends c.requires.string.ended in
    let limit : c.saturating_add.result ≡ 5 * length c.args.text.now + 4 = omega (arith, less) in
    let known = put_all c.args.text.now _ _ _ _ _
    (omega (arith, length-drop 1 executor.hart_state.now.registers, c.run.ensures.whole)) c.requires ends limit c.run.ensures.only in
    record {
      run = rw limit at c.run.ensures.run;
      steps = known.steps_made;
      fault = known.fault;
      bytes_kept = known.bytes_kept;
      rest = search rules;
      accesses = search rules;
      printed = known.printed;
    }
