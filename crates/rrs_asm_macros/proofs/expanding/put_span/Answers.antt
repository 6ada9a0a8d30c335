use Rattle.std.proofs.Common.{◌≤◌, length, arith}
use Rattle.std.proofs.lemmas.Result.{on_ok_weaker}
use Rattle.rrs_asm_macros.specs.Lines.{IsMade}
use Rattle.rrs_asm_macros.proofs.expanding.put_span.Goals as goal

-- the number is that of a line
pub returns-in-Some-clause-made : goal.returns-in-Some-clause-made
returns-in-Some-clause-made g c = λ some made.
    let made_so : ((1 ≤ length c.put.new.self.lines.items) × IsMade c.args.total c.put.new.self) → IsMade c.args.total c.put.new.self = λ both. both.1 in
    on_ok_weaker _ made_so (c.put.ensures.made c.args.total (omega (arith, c.min.ensures, c.max.ensures, some), omega (arith, c.min.ensures, c.max.ensures, some)) made)
