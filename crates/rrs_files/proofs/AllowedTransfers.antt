-- What is done to files that may only be read is done by calls of the host that change nothing, and
-- the files may only be read still: what lists a directory, and what writes a buffer.
use Rattle.std.proofs.Common.{◌≡◌, ℕ, not, Bool, false, List, Option, Result, ap}
use Rattle.rrs_lib.specs.Bytes.{ByteMap}
use Rattle.rrs_lib.specs.AccessLists.{Access}
use Rattle.rrs_files.specs.declared.entries.Step.{Step}
use Rattle.rrs_files.specs.declared.files.Files.{Files}
use Rattle.rrs_files.specs.Calls.{FindsLink, HasNoLink, HasLink, MovesBack, IsThere, IsMovedBack, WritesFile, NotOpenToWrite, MayNotWrite, WritePassesEnd, IsUnmapped, IsWritten, refuses_write}
use Rattle.rrs_files.specs.Descriptors.{may_write}
use Rattle.rrs_files.specs.Entries.{AddsEntry, IsEntry, IsLast, HasNoEntry, Added, NoneYet, OneMore, ReadsDirectory, HasNoKind, IsNoDirectory, HasNoPosition, IsListed}
use Rattle.rrs_files.specs.Events.{Allowed, Did}
use Rattle.rrs_files.proofs.AllowedActs.{KeepsRight, both, changeable, kept, walks}

-- By what a folder says of a call, and by whether files may only be read:
module _ {F : Type 0} (did : Did F) (only : Bool) where
  adds : (at position most : ℕ) (text text' : List ℕ) (old new : F) (step : Step)
      → AddsEntry did at position most text text' old new step
      → AddsEntry (Allowed did only) at position most text text' old new step
  adds at position most text text' old new step (IsEntry entry name told puts) =
      IsEntry entry name (told, λ h. tt) puts
  adds at position most text text' old new step (IsLast told same is) =
      IsLast (told, λ h. tt) same is
  adds at position most text text' old new step (HasNoEntry e told same is) =
      HasNoEntry e (told, λ h. tt) same is

  added : (at from most : ℕ) (old : F) (count : ℕ) (text : List ℕ) (now : F)
      → Added did at from most old count text now
      → Added (Allowed did only) at from most old count text now
  added at from most old _ _ _ NoneYet = NoneYet
  added at from most old _ _ _ (OneMore count text text' now next before one) =
      OneMore count text text' now next (added at from most old count text now before)
      (adds at _ most text text' now next Step.Added one)

  pub reads_directory : (at count : ℕ) (old new : F) (text : List ℕ) (next : Result ℕ ℕ)
      → ReadsDirectory did at count old new text next
      → ReadsDirectory (Allowed did only) at count old new text next
  reads_directory at count old new text next (HasNoKind e told a b) =
      HasNoKind e (told, λ h. tt) a b
  reads_directory at count old new text next (IsNoDirectory status told a b c) =
      IsNoDirectory status (told, λ h. tt) a b c
  reads_directory at count old new text next (HasNoPosition status mid e told a sought b c) =
      HasNoPosition status mid e (told, λ h. tt) a (sought, λ h. tt) b c
  reads_directory at count old new text next (IsListed status mid now position told a sought lists) =
      IsListed status mid now position (told, λ h. tt) a (sought, λ h. tt) (record {
        count = lists.count;
        before = lists.before;
        now = lists.now;
        step = lists.step;
        added = added at _ _ now lists.count lists.before lists.now lists.added;
        last = adds at _ _ lists.before text lists.now new lists.step lists.last;
        ended = lists.ended;
      })

  pub finds_link : (path : List ℕ) (old new : F) (target : Result (List ℕ) ℕ)
      → FindsLink did path old new target → FindsLink (Allowed did only) path old new target
  finds_link path old new target (HasNoLink named e w a b) =
      HasNoLink named e (walks did only path old new named w) a b
  finds_link path old new target (HasLink named mid w a told) =
      HasLink named mid (walks did only path old mid named w) a (told, λ h. tt)

  pub moves_back : (place : ℕ) (from : Option ℕ) (left : ℕ) (old new : F)
      → MovesBack did place from left old new → MovesBack (Allowed did only) place from left old new
  moves_back place from left old new (IsThere a same) = IsThere a same
  moves_back place from left old new (IsMovedBack moved a b told) = IsMovedBack moved a b (told, λ h. tt)

  -- By the bytes of memory: a write that is made is one of files that may be changed.
  module _ (bytes : ByteMap) (descriptor : ℕ) where
    pub writes : (from : Option ℕ) (a count : ℕ) (old new : Files F) (answer : ℕ) (xs : List Access)
        → (refuses_write old descriptor ≡ false → only ≡ false)
        → WritesFile did bytes descriptor from a count old new answer xs
        → WritesFile (Allowed did only) bytes descriptor from a count old new answer xs
        × KeepsRight old new
    writes from a count old new answer xs free (NotOpenToWrite closed same none is) =
        (NotOpenToWrite closed same none is, kept old new same)
    writes from a count old new answer xs free (MayNotWrite place here refused same none is) =
        (MayNotWrite place here refused same none is, kept old new same)
    writes from a count old new answer xs free (WritePassesEnd place here may past same none is) =
        (WritePassesEnd place here may past same none is, kept old new same)
    writes from a count old new answer xs free
        (IsUnmapped place here may within some none same made is) =
        (IsUnmapped place here may within some none same made is, kept old new same)
    writes from a count old new answer xs free
        (IsWritten place folder text reads taken here may within stands buffer took same made is) = (
          IsWritten place folder text reads taken here may within stands buffer
              (took, λ h. changeable only (free may) h) same made is,
          ap (λ files. files.is_read_only) same,
        )

-- files that are written may not only be read
pub free_to_write : {F : Type 0} (files : Files F) (descriptor : ℕ)
    → refuses_write files descriptor ≡ false → files.is_read_only ≡ false
free_to_write files descriptor may =
    (both files.is_read_only (not (may_write files.descriptors.flags descriptor)) may).0
