-- The number and the fields that are compared are those of the instructions.
use Rattle.std.proofs.Common.{◌≡◌, ℕ, refl, sym, ap, ◌∙◌}
use Rattle.rrs_instruction.specs.Table.{table}
use Rattle.rrs_instruction.specs.declared.instruction.Instruction.{Instruction}
use Rattle.rrs_instruction.specs.declared.instruction.InstructionFields.{InstructionFields}
use Rattle.rrs_instruction.specs.Instructions.{numbered, row_of, fields_of, as_fields, in_format}
use Rattle.rrs_instruction.proofs.instruction.InstructionPartialEq.eq.Goals as goal

back : (x : InstructionFields) → in_format (as_fields x) ≡ x
back (InstructionFields.R f) = refl
back _ = refl

number_is : (i : Instruction) (n : ℕ) → n ≡ (table (row_of i)).number → n ≡ (numbered i).0
unfolding numbered
number_is i n e = e

fields_is : (i : Instruction) (x : InstructionFields) → as_fields x ≡ fields_of i → x ≡ (numbered i).1
unfolding numbered
fields_is i x e = sym (back x) ∙ ap in_format e

pub returns : goal.returns
returns c = rw (number_is c.args.self.now _ c.number.ensures.number, fields_is c.args.self.now _ c.fields.ensures, number_is c.args.other.now _ c.number-2.ensures.number, fields_is c.args.other.now _ c.fields-2.ensures) at c.eq.ensures
