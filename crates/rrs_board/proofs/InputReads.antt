-- Reads of a source of bytes, one after another: the first that is not interrupted gives the
-- answer.
use Rattle.std.proofs.Common.{◌≡◌, ◌≢◌, ◌<◌, ◌-◌, ◌^◌, ℕ, Option, Result, IfErr, refl, subst}
use Rattle.std.specs.IoError.{error_kind}
use Rattle.std.specs.declared.io.Error.{Error}
use Rattle.std.specs.declared.io.ErrorKind.{ErrorKind}
use Rattle.std.specs.declared.io.ErrorKind.TheVariants.{WouldBlock, Interrupted}
use Rattle.rrs_board.specs.declared.input.InputAnswer.{InputAnswer}
use Rattle.rrs_board.specs.declared.input.InputAnswer.TheVariants.{Failed}
use Rattle.rrs_board.specs.declared.input.Patience.{Patience}
use Rattle.rrs_board.specs.Inputs.{ReadMade, Interruptions, Answers, answer_of, answer_of_error}

-- an error of another kind says that the source can't be read
pub other_fails : (kind : ErrorKind) → kind ≢ WouldBlock → answer_of_error kind ≡ Failed
other_fails WouldBlock other = absurd (other refl)
other_fails kind other = refl

module _ {R : Type 0} (reads : ReadMade R) (patience : Patience) where
  -- the answer of a read that was not interrupted
  pub answers : (count : ℕ) (old mid new : R) (result : Result (Option ℕ) Error)
      (answer : InputAnswer) → count < 2 ^ 64 - 1 → Interruptions reads patience count old mid
      → reads mid patience result new → IfErr result (λ error. error_kind error ≢ Interrupted)
      → answer_of result ≡ answer
      → Answers reads patience old answer new
  answers count old mid new result answer within made read other is =
      subst (λ a. Answers reads patience old a new) is
      (Answers.OfRead result within made read other)

  -- as many interruptions as are taken
  pub answers_none : (count : ℕ) (old new : R) → count ≡ 2 ^ 64 - 1
      → Interruptions reads patience count old new → Answers reads patience old Failed new
  answers_none count old new is made =
      Answers.GivesUp (subst (λ n. Interruptions reads patience n old new) is made)
