use Rattle.std.proofs.Common.{◌≡◌, ℕ, IfOk, subst, sym}
use Rattle.rrs_asm_lines.specs.declared.lexing.Part.{Part as Cut}
use Rattle.rrs_asm_lines.specs.Lines.{shown}
use Rattle.rrs_asm.specs.Source.{items_in}
use Rattle.rrs_asm.specs.Forms.{items_of_read}
use Rattle.rrs_asm.proofs.assembling.read_part.Goals as goal

-- the part is a statement
pub returns-in-Statement-clause-items : goal.returns-in-Statement-clause-items
returns-in-Statement-clause-items g c =
    let P : Cut → Type 0 = λ p. (number : ℕ) → IfOk c.read_statement.result (λ read. items_of_read number read ≡ items_in number (shown p)) in
    subst P (sym c.in-Statement.is) c.read_statement.ensures.items
