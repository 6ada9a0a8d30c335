use Rattle.std.proofs.Common.{◌≡◌, Some, subst}
use Rattle.std.specs.Prelude.{◌↔◌}
use Rattle.rrs_instruction.specs.Encodings.{Fields}
use Rattle.rrs_instruction.specs.Table.{Decodes}
use Rattle.rrs_instruction.specs.Instructions.{row_of}
use Rattle.rrs_encode.proofs.encode.Goals as goal

pub returns : goal.returns
returns c w =
    subst (λ (f : Fields). (c.word_with.result ≡ Some w) ↔ Decodes w (row_of c.args.instruction.now) f)
    c.fields.ensures (c.word_with.ensures w)
