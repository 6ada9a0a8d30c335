-- Pieces that are written by a descriptor of files that are lent: they are written to those files.
use Rattle.std.proofs.Common.{◌≡◌, ℕ, zero, suc, ◌+◌, inl, inr, subst, ap, ◌∙◌, List}
use Rattle.rrs_lib.specs.Bytes.{ByteMap}
use Rattle.rrs_lib.specs.AccessLists.{Access}
use Rattle.rrs_linux.specs.Vectors.{WritesPieces, WritesVector, IsWritten, IsNegative, IsUnmapped, PassesEnd, IsTooLong}
use Rattle.rrs_files.specs.declared.files.Files.{Files}
use Rattle.rrs_files.specs.declared.pieces.OpenFile.{OpenFile}
use Rattle.rrs_files.specs.Calls.{takes_lent, takes_of_file}
use Rattle.rrs_files.specs.Events.{Did}

-- the files are the same ones still, and this was done to them
abbrev pub OfLent : {F : Type 0} → (does : Files F → Files F → Type 0) → OpenFile F → OpenFile F → Type 0
OfLent does old new = (new.files.ghost_name ≡ old.files.ghost_name) × does old.files.now new.files.now

-- nothing was done
lent_same : {F : Type 0} {old new : OpenFile F} → new ≡ old → OfLent (λ before after. after ≡ before) old new
lent_same same = (ap (λ file. file.files.ghost_name) same, ap (λ file. file.files.now) same)

module _ {F : Type 0} (did : Did F) (bytes : ByteMap) where
  lent_pieces : (n a done answer : ℕ) (old new : OpenFile F) (xs : List Access)
      → WritesPieces (takes_lent did) bytes a n done old new answer xs
      → OfLent (λ before after.
      WritesPieces (takes_of_file did old.descriptor) bytes a n done before after answer xs) old new
  lent_pieces zero a done answer old new xs w =
      let same = lent_same w.0 in (same.0, (same.1, w.1, w.2))
  lent_pieces (suc n) a done answer old new xs w =
      elim w.10 as (λ _. OfLent (λ before after.
      WritesPieces (takes_of_file did old.descriptor) bytes a (suc n) done before after answer xs) old new) [
        | inl whole ↦
            let rest = lent_pieces n (a + 8) (done + w.2) answer w.4 new w.6 whole.1 in
            let goes = subst (λ d. WritesPieces (takes_of_file did d) bytes (a + 8) n (done + w.2) w.4.files.now
            new.files.now answer w.6) w.9.0 rest.1 in (
              rest.0 ∙ w.9.1,
              (w.0, w.1, w.2, w.3, w.4.files.now, w.5, w.6, w.7, w.8, w.9.2, inl (whole.0, goes), w.11),
            )
        | inr short ↦
            let same = lent_same short.1 in (
              same.0 ∙ w.9.1,
              (
                w.0,
                w.1,
                w.2,
                w.3,
                w.4.files.now,
                w.5,
                w.6,
                w.7,
                w.8,
                w.9.2,
                inr (short.0, same.1, short.2, short.3),
                w.11,
              ),
            )
      ]

  pub lent_vector : (a count answer : ℕ) (old new : OpenFile F) (xs : List Access)
      → WritesVector (takes_lent did) bytes a count old new answer xs
      → OfLent (λ before after.
      WritesVector (takes_of_file did old.descriptor) bytes a count before after answer xs) old new
  lent_vector a count answer old new xs (IsWritten vector more low fits stands long none w made) =
      let pieces = lent_pieces _ _ 0 _ old new _ w in
      (pieces.0, IsWritten vector more low fits stands long none pieces.1 made)
  lent_vector a count answer old new xs (IsNegative vector low fits stands long some same is made) =
      let was = lent_same same in
      (was.0, IsNegative vector low fits stands long some was.1 is made)
  lent_vector a count answer old new xs (IsUnmapped vector low fits stands short unmapped same is made) =
      let was = lent_same same in
      (was.0, IsUnmapped vector low fits stands short unmapped was.1 is made)
  lent_vector a count answer old new xs (PassesEnd low past same is made) =
      let was = lent_same same in
      (was.0, PassesEnd low past was.1 is made)
  lent_vector a count answer old new xs (IsTooLong many same is made) =
      let was = lent_same same in
      (was.0, IsTooLong many was.1 is made)
