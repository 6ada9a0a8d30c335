-- What is done to files that may only be read is done by calls of the host that change nothing, and
-- the files may only be read still: what writes the pieces of a vector.
use Rattle.std.proofs.Common.{◌≡◌, ℕ, zero, suc, ◌+◌, Bool, false, List, None, inl, inr, ap, ◌∙◌}
use Rattle.rrs_lib.specs.Bytes.{ByteMap}
use Rattle.rrs_lib.specs.AccessLists.{Access}
use Rattle.rrs_linux.specs.Vectors.{WritesPieces, WritesVector, IsWritten, IsNegative, IsUnmapped, PassesEnd, IsTooLong}
use Rattle.rrs_files.specs.declared.files.Files.{Files}
use Rattle.rrs_files.specs.Calls.{WritesFilePieces, NotOpenToWritePieces, MayNotWritePieces, ArePiecesWritten, refuses_write, takes_of_file}
use Rattle.rrs_files.specs.Events.{Allowed, Did}
use Rattle.rrs_files.proofs.AllowedActs.{KeepsRight, kept}
use Rattle.rrs_files.proofs.AllowedTransfers.{writes}

-- By what a folder says of a call, by whether files may only be read, and by the bytes of memory:
module _ {F : Type 0} (did : Did F) (only : Bool) (bytes : ByteMap) (descriptor : ℕ) where
  pieces : only ≡ false → (n a done answer : ℕ) (old new : Files F) (xs : List Access)
      → WritesPieces (takes_of_file did descriptor) bytes a n done old new answer xs
      → WritesPieces (takes_of_file (Allowed did only) descriptor) bytes a n done old new answer xs
      × KeepsRight old new
  pieces free zero a done answer old new xs w = (w, kept old new w.0)
  pieces free (suc n) a done answer old new xs w =
      let here = writes did only bytes descriptor None w.0 w.2 old w.4 w.3 w.5 (λ may. free) w.9 in
      elim w.10 as (λ _. WritesPieces (takes_of_file (Allowed did only) descriptor) bytes a (suc n) done
      old new answer xs × KeepsRight old new) [
        | inl whole ↦
            let rest = pieces free n (a + 8) (done + w.2) answer w.4 new w.6 whole.1 in (
              (
                w.0,
                w.1,
                w.2,
                w.3,
                w.4,
                w.5,
                w.6,
                w.7,
                w.8,
                here.0,
                inl (whole.0, rest.0),
                w.11,
              ),
              rest.1 ∙ here.1,
            )
        | inr short ↦ (
          (w.0, w.1, w.2, w.3, w.4, w.5, w.6, w.7, w.8, here.0, inr short, w.11),
          ap (λ files. files.is_read_only) short.1 ∙ here.1,
        )
      ]

  writes_vector : only ≡ false → (a count answer : ℕ) (old new : Files F) (xs : List Access)
      → WritesVector (takes_of_file did descriptor) bytes a count old new answer xs
      → WritesVector (takes_of_file (Allowed did only) descriptor) bytes a count old new answer xs
      × KeepsRight old new
  writes_vector free a count answer old new xs (IsWritten vector more low fits stands long none w made) =
      let all = pieces free count a 0 answer old new more w in
      (IsWritten vector more low fits stands long none all.0 made, all.1)
  writes_vector free a count answer old new xs (IsNegative vector low fits stands long some same is made) =
      (IsNegative vector low fits stands long some same is made, kept old new same)
  writes_vector free a count answer old new xs
      (IsUnmapped vector low fits stands short none same is made) =
      (IsUnmapped vector low fits stands short none same is made, kept old new same)
  writes_vector free a count answer old new xs (PassesEnd low past same is made) =
      (PassesEnd low past same is made, kept old new same)
  writes_vector free a count answer old new xs (IsTooLong many same is made) =
      (IsTooLong many same is made, kept old new same)

  pub writes_pieces : (a count answer : ℕ) (old new : Files F) (xs : List Access)
      → (refuses_write old descriptor ≡ false → only ≡ false)
      → WritesFilePieces did bytes descriptor a count old new answer xs
      → WritesFilePieces (Allowed did only) bytes descriptor a count old new answer xs
      × KeepsRight old new
  writes_pieces a count answer old new xs free (NotOpenToWritePieces closed same none is) =
      (NotOpenToWritePieces closed same none is, kept old new same)
  writes_pieces a count answer old new xs free (MayNotWritePieces place here refused same none is) =
      (MayNotWritePieces place here refused same none is, kept old new same)
  writes_pieces a count answer old new xs free (ArePiecesWritten place here may w) =
      let all = writes_vector (free may) a count answer old new xs w in
      (ArePiecesWritten place here may all.0, all.1)
