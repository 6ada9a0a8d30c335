use Rattle.std.proofs.Common.{ℕ, Option, Some, None, IfNone, refl}
use Rattle.std.proofs.lemmas.Option.{none-some}
use Rattle.rrs_instruction.specs.Instructions.{IsInstruction}
use Rattle.rrs_instruction.proofs.Instructions.{decoded_again}
use Rattle.rrs_encode.proofs.laws.decode_of_encode.Goals as goal

pub returns-clause-word : goal.returns-clause-word
returns-clause-word c = (c.in_ok-word.ensures _).0 refl

pub returns-clause-same : goal.returns-clause-same
returns-clause-same c =
    decoded_again _ _ _ ((c.in_ok-word.ensures _).0 refl) c.decode.ensures.outside c.decode.ensures.only

at_none : {A : Type 0} (P : Type 0) (answer : Option A) → P → IfNone answer P
at_none P None holds = holds
at_none P (Some _) holds = tt

pub returns-in_err-word-clause-no_word : goal.returns-in_err-word-clause-no_word
returns-in_err-word-clause-no_word c =
    let no_word : (w : ℕ) → ¬ IsInstruction w c.args.instruction.now = λ w is. none-some w ((c.in_err-word.ensures w).1 is) in
    at_none _ _ no_word
