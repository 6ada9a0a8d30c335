-- A word is one row at most, so what was done is done of whichever row it is known to be.
use Rattle.std.proofs.Common.{ℕ, Option, Some, None, IfSome}
use Rattle.rrs_instruction.specs.Encodings.{Fields}
use Rattle.rrs_instruction.specs.Table.{Row, Decodes, IsRowAnd}
use Rattle.rrs_instruction.proofs.Rows.{one_row_at_most, these}
use Rattle.rrs_instruction.proofs.decode.process_instruction.Goals as goal

these_if : {A : Type 0} (P : Row → Fields → A → Type 0) (w : ℕ) (o : Option A) → IfSome o (λ a. IsRowAnd w (λ row f. P row f a))
    → IfSome o (λ a. (row : Row) (f : Fields) → Decodes w row f → P row f a)
these_if P w None h = tt
these_if P w (Some a) h = λ row f is. these (λ row f. P row f a) w row f h is

pub returns-clause-decoded : goal.returns-clause-decoded
returns-clause-decoded g c = c.hand_opcode.ensures.decoded

pub returns-clause-these : goal.returns-clause-these
returns-clause-these g c =
    these_if (λ row f a. g.T.InstructionProcessor.did row f c.args.processor.now c.hand_opcode.new.processor a) c.args.insn_bits c.hand_opcode.result c.hand_opcode.ensures.decoded

pub returns-clause-unique : goal.returns-clause-unique
returns-clause-unique g c = one_row_at_most c.args.insn_bits
