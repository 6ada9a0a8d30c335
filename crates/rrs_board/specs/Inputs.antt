-- The input of a board: what is asked for a byte, and says that one came, that none came yet, that
-- none will, or that it can't be read. And a source of bytes as one: by which reads it says this.
use Rattle.std.specs.Prelude.{◌≡◌, ◌≢◌, ◌<◌, ◌+◌, ◌-◌, ◌^◌, ℕ, List, [], ◌∷◌, Option, Some, None, Result, Ok, Err, MatchOption, MatchResult, IfErr, if◌then◌else◌}
use Rattle.std.specs.Io.KnownBytes.{Consumes, IsAtEnd}
use Rattle.std.specs.IoError.{error_kind}
use Rattle.std.specs.declared.io.Error.{Error}
use Rattle.std.specs.declared.io.ErrorKind.{ErrorKind}
use Rattle.std.specs.declared.io.ErrorKind.TheVariants.{WouldBlock, Interrupted}
use Rattle.rrs_board.specs.declared.input.InputAnswer.{InputAnswer}
use Rattle.rrs_board.specs.declared.input.InputAnswer.TheVariants.{Byte, Nothing, Ended, Failed}
use Rattle.rrs_board.specs.declared.input.Patience.{Patience}
use Rattle.rrs_board.specs.declared.input.Patience.TheVariants.{Endless}
use Rattle.rrs_board.specs.declared.input.Typed.{Typed}

-- What an input that was asked with this patience said, by the input before and after that.
abbrev pub Listener : Type 0 → Type 1
Listener I = I → Patience → InputAnswer → I → Type 0

-- what is typed by an answer
abbrev pub typed_by : InputAnswer → List ℕ
typed_by (Byte byte) = byte ∷ []
typed_by answer = []

-- What an answer says of the bytes that are still to come, before and after it, where they are
-- known: a byte is the first of them, and at the end there are none.
abbrev pub Gives : InputAnswer → Option (List ℕ) → Option (List ℕ) → Type 0
Gives Ended input rest = Consumes input rest [] × IsAtEnd rest
Gives answer input rest = Consumes input rest (typed_by answer)

-- the same of a read that gives a byte, or none at the end
abbrev pub Reads : {E : Type 0} → Result (Option ℕ) E → Option (List ℕ) → Option (List ℕ) → Type 0
Reads result input rest =
    MatchResult result
    (λ byte. MatchOption byte (Consumes input rest [] × IsAtEnd rest)
    (λ b. Consumes input rest (b ∷ [])))
    (λ _. Consumes input rest [])

-- ---- a source of bytes

-- One read of a source: with which patience it was made and what it gave, by the source before and
-- after it.
abbrev pub ReadMade : Type 0 → Type 1
ReadMade R = R → Patience → Result (Option ℕ) Error → R → Type 0

-- what a read that failed says: where it would block, nothing came yet
abbrev pub answer_of_error : ErrorKind → InputAnswer
answer_of_error WouldBlock = Nothing
answer_of_error kind = Failed

-- what a read says: a byte, or at the end that none will come
abbrev pub answer_of : Result (Option ℕ) Error → InputAnswer
answer_of (Ok (Some byte)) = Byte byte
answer_of (Ok None) = Ended
answer_of (Err error) = answer_of_error (error_kind error)

-- By the reads of a source that are made, with this patience:
module _ {R : Type 0} (reads : ReadMade R) (patience : Patience) where
  -- so many reads were made, one after another, and each was interrupted
  pub data Interruptions : ℕ → R → R → Type 0 where
    NoneYet : {source : R} → Interruptions 0 source source
    Again : {count : ℕ} {old mid new : R} {error : Error} → Interruptions count old mid
        → reads mid patience (Err error) new → error_kind error ≡ Interrupted
        → Interruptions (count + 1) old new

  -- A read that is interrupted is made again, and the first that is not gives the answer. After
  -- 2^64 - 1 that were interrupted none more is made.
  pub data Answers : R → InputAnswer → R → Type 0 where
    OfRead : {count : ℕ} {old mid new : R} (result : Result (Option ℕ) Error)
        → count < 2 ^ 64 - 1 → Interruptions count old mid
        → reads mid patience result new → IfErr result (λ error. error_kind error ≢ Interrupted)
        → Answers old (answer_of result) new
    GivesUp : {old new : R} → Interruptions (2 ^ 64 - 1) old new → Answers old Failed new

-- A source is read with the patience that is asked for, and one that waits without limit. It says
-- what these reads say, and nothing else is read of it.
pub record ReaderSays {R : Type 0} (reads : ReadMade R) (remaining : R → Option (List ℕ))
    (old : Typed R) (patience : Patience) (answer : InputAnswer) (new : Typed R) : Type 0 where
  pub answers : Answers reads (if old.waits then Endless else patience) old.reader answer new.reader
  pub bytes : Gives answer (remaining old.reader) (remaining new.reader)
  pub waits : new.waits ≡ old.waits
