use Rattle.std.proofs.Common.{◌≡◌, false}
use Rattle.rrs_asm_lines.specs.Lines.{begins_with, behind_blanks}
use Rattle.rrs_asm.proofs.Made.{behind-named}
use Rattle.rrs_asm.proofs.assembling.read_behind.Goals as goal

-- it is no constant
pub returns-clause-items : goal.returns-clause-items
returns-clause-items g c = λ number.
    let other : begins_with 61 (behind_blanks c.args.rest.now) ≡ false = cc in
    behind-named number c.args.name.now c.args.rest.now c.read_named.result other (c.read_named.ensures.items number)
