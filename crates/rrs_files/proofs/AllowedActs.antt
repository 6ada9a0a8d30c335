-- What is done to files that may only be read is done by calls of the host that change nothing, and
-- the files may only be read still: the calls whose path is read.
use Rattle.std.proofs.Common.{◌≡◌, ℕ, ◌&&◌, ◌||◌, Bool, true, false, List, Option, Some, None, refl, sym, subst, ap, ◌∙◌}
use Rattle.rrs_files.specs.declared.files.Files.{Files}
use Rattle.rrs_files.specs.declared.folder.Change.{Change}
use Rattle.rrs_files.specs.declared.folder.How.{How}
use Rattle.rrs_files.specs.declared.folder.NameChange.{NameChange}
use Rattle.rrs_files.specs.declared.paths.Named.{Named}
use Rattle.rrs_files.specs.Acts.{Opens, IsUnserved, IsReadOnly, HasNoPlace, IsRefused, HasFailed, IsOpened, Leaves, IsLeft, IsStillUsed, Closes, IsClosedNow, WasStream, WasClosed, Copies, IsCopied, HasNoPlaceToCopy, HasNoLeast, NotOpenToCopy, CopiesTo, HasBadFlags, IsNoDescriptor, NotOpenToCopyTo, IsCopiedTo, Changes, NotOpenToChange, MayNotChange, IsChanged, Owns, NotOpenToOwn, HasNoOwner, HasOwner, ChangesName, MayNot, IsKept, HasChanged, Renames, MayNotRename, IsNotMoved, IsNotReplaced, IsRenamed, Tests, IsTested, Controls, IsCopying, NotOpenToControl, IsControlled, ControlsDevice, NotOpenToControlDevice, IsNoTerminal, withholding}
use Rattle.rrs_files.specs.Events.{Allowed, ChangesNothing, Changed, Did, IsReadAlone}
use Rattle.rrs_files.specs.Paths.{Enters, IsName, IsSlash, Walked, Begun, Further, Walks, IsSeen, IsStopped}
use Rattle.rrs_files.specs.Requests.{changes}

-- of both of two words
pub both : (a b : Bool) → (a || b) ≡ false → (a ≡ false) × (b ≡ false)
both true b none = absurd (cc none)
both false b none = (refl, none)

-- what changes no files is opened to be read alone
read_alone : (only : Bool) (how : How) → (only && changes how) ≡ false → only ≡ true → IsReadAlone how
read_alone true how none is =
    let last = both (how.writes || how.appends || how.creates) how.truncates none in
    let third = both (how.writes || how.appends) how.creates last.0 in
    let first = both how.writes how.appends third.0 in
    record { no_write = first.0; no_append = first.1; no_create = third.1; no_truncate = last.1 }
read_alone false how none is = absurd (cc is)

-- a change that is made all the same is a flush
flushes : (only : Bool) (at : ℕ) (change : Change) (failed : Option ℕ) → withholding only change ≡ None
    → only ≡ true → ChangesNothing (Changed at change failed)
flushes true at (Change.Length length) failed none is = absurd (cc none)
flushes true at Change.Flush failed none is = tt
flushes true at Change.FlushBytes failed none is = tt
flushes true at (Change.Mode mode) failed none is = absurd (cc none)
flushes false at change failed none is = absurd (cc is)

-- files that may be changed, which is what is done
pub changeable : {P : Type 0} (only : Bool) → only ≡ false → only ≡ true → P
changeable only may is = absurd (cc (sym may ∙ is))

-- files may only be read as before
abbrev pub KeepsRight : {F : Type 0} → Files F → Files F → Type 0
KeepsRight old new = new.is_read_only ≡ old.is_read_only

pub kept : {F : Type 0} (old new : Files F) → new ≡ old → KeepsRight old new
kept old new same = ap (λ files. files.is_read_only) same

-- By what a folder says of a call:
module _ {F : Type 0} (did : Did F) where
  enters : (only : Bool) (path : List ℕ) (at : ℕ) (now next : F) (stop : Option ℕ)
      → Enters did path at now next stop → Enters (Allowed did only) path at now next stop
  enters only path at now next stop (IsName other same none) = IsName other same none
  enters only path at now next stop (IsSlash seen here told is) = IsSlash seen here (told, λ h. tt) is

  walked : (only : Bool) (path : List ℕ) (old : F) (at : ℕ) (now : F)
      → Walked did path old at now → Walked (Allowed did only) path old at now
  walked only path old _ _ Begun = Begun
  walked only path old _ _ (Further at now next before entered) =
      Further at now next (walked only path old at now before) (enters only path at now next None entered)

  pub walks : (only : Bool) (path : List ℕ) (old new : F) (named : Named)
      → Walks did path old new named → Walks (Allowed did only) path old new named
  walks only path old new named (IsSeen now seen before told is) =
      IsSeen now seen (walked only path old _ now before) (told, λ h. tt) is
  walks only path old new named (IsStopped at now e before within entered is) =
      IsStopped at now e (walked only path old at now before) within
      (enters only path at now new (Some e) entered) is

  -- By the files before and after, and the answer:
  leaves : (old new : Files F) (at : ℕ) → Leaves did at old new
      → Leaves (Allowed did old.is_read_only) at old new × KeepsRight old new
  leaves old new at (IsLeft folder none told same) =
      (IsLeft folder none (told, λ h. tt) same, ap (λ files. files.is_read_only) same)
  leaves old new at (IsStillUsed used same) = (IsStillUsed used same, kept old new same)

  module _ (old new : Files F) (answer : ℕ) where
    pub opens : (path : List ℕ) (flags mode : ℕ) → Opens did path flags mode old new answer
        → Opens (Allowed did old.is_read_only) path flags mode old new answer × KeepsRight old new
    opens path flags mode (IsUnserved a same is) = (IsUnserved a same is, kept old new same)
    opens path flags mode (IsReadOnly a b same is) = (IsReadOnly a b same is, kept old new same)
    opens path flags mode (HasNoPlace a b c same is) = (HasNoPlace a b c same is, kept old new same)
    opens path flags mode (IsRefused named folder a b w c same) = (
      IsRefused named folder a b (walks old.is_read_only path _ _ named w) c same,
      ap (λ files. files.is_read_only) same,
    )
    opens path flags mode (HasFailed named place at mid folder a b c d w e told same) = (
      HasFailed named place at mid folder a b c d (walks old.is_read_only path _ _ named w) e
          (told, read_alone old.is_read_only _ b) same,
      ap (λ files. files.is_read_only) same,
    )
    opens path flags mode (IsOpened named place at mid folder a b c d w e told same is) = (
      IsOpened named place at mid folder a b c d (walks old.is_read_only path _ _ named w) e
          (told, read_alone old.is_read_only _ b) same is,
      ap (λ files. files.is_read_only) same,
    )

    pub closes : (descriptor : ℕ) → Closes did descriptor old new answer
        → Closes (Allowed did old.is_read_only) descriptor old new answer × KeepsRight old new
    closes descriptor (IsClosedNow at mid a b left is) =
        let right : mid.is_read_only ≡ old.is_read_only = ap (λ files. files.is_read_only) b in
        let all = leaves mid new at left in (
          IsClosedNow at mid a b (subst (λ only. Leaves (Allowed did only) at mid new) right all.0) is,
          all.1 ∙ right,
        )
    closes descriptor (WasStream stream a same is) =
        (WasStream stream a same is, ap (λ files. files.is_read_only) same)
    closes descriptor (WasClosed a same is) = (WasClosed a same is, kept old new same)

    pub copies : (descriptor least : ℕ) → Copies did descriptor least old new answer
        → Copies (Allowed did old.is_read_only) descriptor least old new answer
        × KeepsRight old new
    copies descriptor least (IsCopied target place a b same is) =
        (IsCopied target place a b same is, ap (λ files. files.is_read_only) same)
    copies descriptor least (HasNoPlaceToCopy target a b c same is) =
        (HasNoPlaceToCopy target a b c same is, kept old new same)
    copies descriptor least (HasNoLeast target a b same is) =
        (HasNoLeast target a b same is, kept old new same)
    copies descriptor least (NotOpenToCopy a same is) = (NotOpenToCopy a same is, kept old new same)

    pub changed : (descriptor : ℕ) (change : Change) → Changes did descriptor change old new answer
        → Changes (Allowed did old.is_read_only) descriptor change old new answer
        × KeepsRight old new
    changed descriptor change (NotOpenToChange a same is) =
        (NotOpenToChange a same is, kept old new same)
    changed descriptor change (MayNotChange place a b same) =
        (MayNotChange place a b same, kept old new same)
    changed descriptor change (IsChanged place folder failed a b told same is) = (
      IsChanged place folder failed a b
          (told, flushes old.is_read_only place change failed b) same is,
      ap (λ files. files.is_read_only) same,
    )

    pub owns : (descriptor owner group : ℕ) → Owns did descriptor owner group old new answer
        → Owns (Allowed did old.is_read_only) descriptor owner group old new answer
        × KeepsRight old new
    owns descriptor owner group (NotOpenToOwn a same is) =
        (NotOpenToOwn a same is, kept old new same)
    owns descriptor owner group (HasNoOwner place folder a told same) =
        (HasNoOwner place folder a (told, λ h. tt) same, ap (λ files. files.is_read_only) same)
    owns descriptor owner group (HasOwner place folder status a told same is) = (
      HasOwner place folder status a (told, λ h. tt) same is,
      ap (λ files. files.is_read_only) same,
    )

    pub changes_name : (path : List ℕ) (change : NameChange) → ChangesName did path change old new answer
        → ChangesName (Allowed did old.is_read_only) path change old new answer
        × KeepsRight old new
    changes_name path change (MayNot a same is) = (MayNot a same is, kept old new same)
    changes_name path change (IsKept named folder a w b same) = (
      IsKept named folder a (walks old.is_read_only path _ _ named w) b same,
      ap (λ files. files.is_read_only) same,
    )
    changes_name path change (HasChanged named mid folder failed a w b told same is) = (
      HasChanged named mid folder failed a (walks old.is_read_only path _ _ named w) b
          (told, λ h. changeable old.is_read_only a h) same is,
      ap (λ files. files.is_read_only) same,
    )

    pub renames : (from to : List ℕ) → Renames did from to old new answer
        → Renames (Allowed did old.is_read_only) from to old new answer × KeepsRight old new
    renames from to (MayNotRename a same is) = (MayNotRename a same is, kept old new same)
    renames from to (IsNotMoved named folder a w b same) = (
      IsNotMoved named folder a (walks old.is_read_only from _ _ named w) b same,
      ap (λ files. files.is_read_only) same,
    )
    renames from to (IsNotReplaced named there mid folder a w b v c same) = (
      IsNotReplaced named there mid folder a (walks old.is_read_only from _ _ named w) b
          (walks old.is_read_only to _ _ there v) c same,
      ap (λ files. files.is_read_only) same,
    )
    renames from to (IsRenamed named there mid seen folder failed a w b v c told same is) = (
      IsRenamed named there mid seen folder failed a (walks old.is_read_only from _ _ named w) b
          (walks old.is_read_only to _ _ there v) c (told, λ h. changeable old.is_read_only a h) same is,
      ap (λ files. files.is_read_only) same,
    )

    pub tests : (path : List ℕ) (asked : ℕ) → Tests did path asked old new answer
        → Tests (Allowed did old.is_read_only) path asked old new answer × KeepsRight old new
    tests path asked (IsTested named folder w same is) = (
      IsTested named folder (walks old.is_read_only path _ _ named w) same is,
      ap (λ files. files.is_read_only) same,
    )

    pub controls : (descriptor command argument : ℕ)
        → Controls did descriptor command argument old new answer
        → Controls (Allowed did old.is_read_only) descriptor command argument old new answer
        × KeepsRight old new
    controls descriptor command argument (IsCopying a copied) =
        let all = copies descriptor argument copied in (IsCopying a all.0, all.1)
    controls descriptor command argument (NotOpenToControl a same is) =
        (NotOpenToControl a same is, kept old new same)
    controls descriptor command argument (IsControlled target a b same is) =
        (IsControlled target a b same is, kept old new same)

    pub controls_device : (descriptor : ℕ) → ControlsDevice did descriptor old new answer
        → ControlsDevice (Allowed did old.is_read_only) descriptor old new answer
        × KeepsRight old new
    controls_device descriptor (NotOpenToControlDevice a same is) =
        (NotOpenToControlDevice a same is, kept old new same)
    controls_device descriptor (IsNoTerminal place a same is) =
        (IsNoTerminal place a same is, kept old new same)

  -- a descriptor is closed before it has another file
  pub copies_to : (old new : Files F) (answer descriptor to flags : ℕ)
      → CopiesTo did descriptor to flags old new answer
      → CopiesTo (Allowed did old.is_read_only) descriptor to flags old new answer
      × KeepsRight old new
  copies_to old new answer descriptor to flags (HasBadFlags a same is) =
      (HasBadFlags a same is, kept old new same)
  copies_to old new answer descriptor to flags (IsNoDescriptor a same is) =
      (IsNoDescriptor a same is, kept old new same)
  copies_to old new answer descriptor to flags (NotOpenToCopyTo a same is) =
      (NotOpenToCopyTo a same is, kept old new same)
  copies_to old new answer descriptor to flags (IsCopiedTo target closed mid a b c d closing same is) =
      let before = closes old mid closed to closing in (
        IsCopiedTo target closed mid a b c d before.0 same is,
        ap (λ files. files.is_read_only) same ∙ before.1,
      )
