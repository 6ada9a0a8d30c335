use Rattle.std.proofs.Common.{◌≤◌, length, rules, arith}
use Rattle.std.proofs.lemmas.Grind.{common_steps}
use Rattle.rrs_asm.proofs.Made.{ReadsOn-skipped}
use Rattle.rrs_asm.proofs.assembling.check_skipped.Goals as goal

-- no section is open
pub returns-else-reading-len : goal.returns-else-reading-len
returns-else-reading-len g c = λ item plain.
    let above : length c.args.reading.now.sections.items ≤ c.args.reading.now.current = first_of (search rules, omega arith, grind (arith, common_steps)) in
    ReadsOn-skipped item c.args.reading.now plain above
