-- What is done to files that may only be read is done by calls of the host that change nothing, and
-- the files may only be read still: each call for files.
use Rattle.std.proofs.Common.{ℕ, Bool, List, Option, Some, None, ap}
use Rattle.rrs_lib.specs.Bytes.{ByteMap}
use Rattle.rrs_lib.specs.AccessLists.{Access}
use Rattle.rrs_files.specs.declared.files.Files.{Files}
use Rattle.rrs_files.specs.declared.requests.FileRequest.{FileRequest}
use Rattle.rrs_files.specs.declared.statuses.Form.{Form}
use Rattle.rrs_files.specs.Acts.{ChangesName, Opens, Renames, Tests}
use Rattle.rrs_files.specs.Calls.{ByPath, IsDone, IsRefused, ByPaths, AreDone, FirstIsRefused, SecondIsRefused, DoesFile, ReadsFile, NotOpenToRead, ReadPassesEnd, ReadFailed, IsGiven, SeeksFile, NotOpenToSeek, IsFromNowhere, SeekFailed, IsMoved, ListsFile, NotOpenToList, IsNotListed, IsAtEnd, IsNotPut, IsListed, TellsFile, NotOpenToTell, TellFailed, IsTold, TellsBeside, IsOfFile, IsOfOpenStream, IsOfNoFolder, IsOfFolder, TellsNamed, IsOfDescriptor, IsForbiddenPath, HasNoStatus, IsToldByName, ReadsLink, HasNoSize, IsForbiddenLink, IsNoLink, IsLink, SetsTimes, HasNoTimes, HasTimes}
use Rattle.rrs_files.specs.Events.{Allowed, Did}
use Rattle.rrs_files.proofs.AllowedActs.{KeepsRight, changed, changes_name, closes, controls, controls_device, copies, copies_to, kept, opens, owns, renames, tests, walks}
use Rattle.rrs_files.proofs.AllowedTransfers.{finds_link, free_to_write, moves_back, reads_directory, writes}
use Rattle.rrs_files.proofs.AllowedVectors.{writes_pieces}

-- By what a folder says of a call, by memory, and by the files before and after, with the answer and
-- the accesses:
module _ {F : Type 0} (did : Did F) (writable : ℕ → Bool) (bytes bytes' : ByteMap)
    (old new : Files F) (answer : ℕ) where
  by_path : (does does' : List ℕ → Files F → Files F → ℕ → Type 0) (beside a : ℕ) (xs : List Access)
      → ((path : List ℕ) → does path old new answer → does' path old new answer × KeepsRight old new)
      → ByPath did writable bytes bytes' does beside a old new answer xs
      → ByPath (Allowed did old.is_read_only) writable bytes bytes' does' beside a old new answer xs
      × KeepsRight old new
  by_path does does' beside a xs each (IsDone path took done same) =
      let all = each path done in (IsDone path took all.0 same, all.1)
  by_path does does' beside a xs each (IsRefused took same is) =
      (IsRefused took same is, kept old new same)

  by_paths : (does does' : List ℕ → List ℕ → Files F → Files F → ℕ → Type 0)
      (beside a beside' a' : ℕ) (xs : List Access)
      → ((path path' : List ℕ) → does path path' old new answer
      → does' path path' old new answer × KeepsRight old new)
      → ByPaths did writable bytes bytes' does beside a beside' a' old new answer xs
      → ByPaths (Allowed did old.is_read_only) writable bytes bytes' does' beside a beside' a'
      old new answer xs × KeepsRight old new
  by_paths does does' beside a beside' a' xs each (AreDone path path' first later took took' made done same) =
      let all = each path path' done in (AreDone path path' first later took took' made all.0 same, all.1)
  by_paths does does' beside a beside' a' xs each (FirstIsRefused took same is) =
      (FirstIsRefused took same is, kept old new same)
  by_paths does does' beside a beside' a' xs each (SecondIsRefused path first later took took' made same is) =
      (SecondIsRefused path first later took took' made same is, kept old new same)

  reads : (descriptor : ℕ) (from : Option ℕ) (a count : ℕ) (xs : List Access)
      → ReadsFile did writable bytes bytes' descriptor from a count old new answer xs
      → ReadsFile (Allowed did old.is_read_only) writable bytes bytes' descriptor from a count
      old new answer xs × KeepsRight old new
  reads descriptor from a count xs (NotOpenToRead closed same is none e) =
      (NotOpenToRead closed same is none e, kept old new same)
  reads descriptor from a count xs (ReadPassesEnd place here past same is none e) =
      (ReadPassesEnd place here past same is none e, kept old new same)
  reads descriptor from a count xs (ReadFailed place folder here within gave same is none) = (
    ReadFailed place folder here within (gave, λ h. tt) same is none,
    ap (λ files. files.is_read_only) same,
  )
  reads descriptor from a count xs (IsGiven place mid folder text left here within gave gives back same) = (
    IsGiven place mid folder text left here within (gave, λ h. tt) gives
        (moves_back did old.is_read_only _ from _ mid folder back) same,
    ap (λ files. files.is_read_only) same,
  )

  seeks : (descriptor offset from a : ℕ) (xs : List Access)
      → SeeksFile did writable bytes bytes' descriptor offset from a old new answer xs
      → SeeksFile (Allowed did old.is_read_only) writable bytes bytes' descriptor offset from a
      old new answer xs × KeepsRight old new
  seeks descriptor offset from a xs (NotOpenToSeek closed same is none e) =
      (NotOpenToSeek closed same is none e, kept old new same)
  seeks descriptor offset from a xs (IsFromNowhere place here far same is none e) =
      (IsFromNowhere place here far same is none e, kept old new same)
  seeks descriptor offset from a xs (SeekFailed place folder here low sought same is none) = (
    SeekFailed place folder here low (sought, λ h. tt) same is none,
    ap (λ files. files.is_read_only) same,
  )
  seeks descriptor offset from a xs (IsMoved place position folder here low sought same puts) = (
    IsMoved place position folder here low (sought, λ h. tt) same puts,
    ap (λ files. files.is_read_only) same,
  )

  lists : (descriptor a count : ℕ) (xs : List Access)
      → ListsFile did writable bytes bytes' descriptor a count old new answer xs
      → ListsFile (Allowed did old.is_read_only) writable bytes bytes' descriptor a count
      old new answer xs × KeepsRight old new
  lists descriptor a count xs (NotOpenToList closed same is none e) =
      (NotOpenToList closed same is none e, kept old new same)
  lists descriptor a count xs (IsNotListed place folder text here read same is none) = (
    IsNotListed place folder text here
        (reads_directory did old.is_read_only place count _ folder text _ read) same is none,
    ap (λ files. files.is_read_only) same,
  )
  lists descriptor a count xs (IsAtEnd place next folder here read same is none e) = (
    IsAtEnd place next folder here
        (reads_directory did old.is_read_only place count _ folder _ _ read) same is none e,
    ap (λ files. files.is_read_only) same,
  )
  lists descriptor a count xs (IsNotPut place next folder text here read same puts some) = (
    IsNotPut place next folder text here
        (reads_directory did old.is_read_only place count _ folder text _ read) same puts some,
    ap (λ files. files.is_read_only) same,
  )
  lists descriptor a count xs (IsListed place next mid folder text moved here read some puts sought same e) = (
    IsListed place next mid folder text moved here
        (reads_directory did old.is_read_only place count _ mid text _ read) some puts
        (sought, λ h. tt) same e,
    ap (λ files. files.is_read_only) same,
  )

  tells : (descriptor a : ℕ) (form : Form) (xs : List Access)
      → TellsFile did writable bytes bytes' descriptor a form old new answer xs
      → TellsFile (Allowed did old.is_read_only) writable bytes bytes' descriptor a form
      old new answer xs × KeepsRight old new
  tells descriptor a form xs (NotOpenToTell closed same is none e) =
      (NotOpenToTell closed same is none e, kept old new same)
  tells descriptor a form xs (TellFailed place folder here told same is none) = (
    TellFailed place folder here (told, λ h. tt) same is none,
    ap (λ files. files.is_read_only) same,
  )
  tells descriptor a form xs (IsTold place folder status here told same puts) = (
    IsTold place folder status here (told, λ h. tt) same puts,
    ap (λ files. files.is_read_only) same,
  )

  tells_beside : (beside a : ℕ) (form : Form) (xs : List Access)
      → TellsBeside did writable bytes bytes' beside a form old new answer xs
      → TellsBeside (Allowed did old.is_read_only) writable bytes bytes' beside a form
      old new answer xs × KeepsRight old new
  tells_beside beside a form xs (IsOfFile other here told) =
      let all = tells beside a form xs told in (IsOfFile other here all.0, all.1)
  tells_beside beside a form xs (IsOfOpenStream stream is same puts) =
      (IsOfOpenStream stream is same puts, kept old new same)
  tells_beside beside a form xs (IsOfNoFolder folder here told same is none) = (
    IsOfNoFolder folder here (told, λ h. tt) same is none,
    ap (λ files. files.is_read_only) same,
  )
  tells_beside beside a form xs (IsOfFolder folder status here told same puts) = (
    IsOfFolder folder status here (told, λ h. tt) same puts,
    ap (λ files. files.is_read_only) same,
  )

  tells_named : (beside path flags a : ℕ) (form : Form) (xs : List Access)
      → TellsNamed did writable bytes bytes' beside path flags a form old new answer xs
      → TellsNamed (Allowed did old.is_read_only) writable bytes bytes' beside path flags a form
      old new answer xs × KeepsRight old new
  tells_named beside path flags a form xs (IsOfDescriptor e first later took is told made) =
      let all = tells_beside beside a form later told in
      (IsOfDescriptor e first later took is all.0 made, all.1)
  tells_named beside path flags a form xs (IsForbiddenPath took is same b) =
      (IsForbiddenPath took is same b, kept old new same)
  tells_named beside path flags a form xs (HasNoStatus text named folder took w is same b) = (
    HasNoStatus text named folder took (walks did old.is_read_only text _ folder named w) is same b,
    ap (λ files. files.is_read_only) same,
  )
  tells_named beside path flags a form xs
      (IsToldByName text named folder status first later took w is same puts made) = (
        IsToldByName text named folder status first later took
            (walks did old.is_read_only text _ folder named w) is same puts made,
        ap (λ files. files.is_read_only) same,
      )

  reads_link : (beside path a size : ℕ) (xs : List Access)
      → ReadsLink did writable bytes bytes' beside path a size old new answer xs
      → ReadsLink (Allowed did old.is_read_only) writable bytes bytes' beside path a size
      old new answer xs × KeepsRight old new
  reads_link beside path a size xs (HasNoSize low same is none e) =
      (HasNoSize low same is none e, kept old new same)
  reads_link beside path a size xs (IsForbiddenLink took same is) =
      (IsForbiddenLink took same is, kept old new same)
  reads_link beside path a size xs (IsNoLink text folder took finds same is) = (
    IsNoLink text folder took (finds_link did old.is_read_only text _ folder _ finds) same is,
    ap (λ files. files.is_read_only) same,
  )
  reads_link beside path a size xs (IsLink text target folder first later put took finds same puts made e) = (
    IsLink text target folder first later put took
        (finds_link did old.is_read_only text _ folder _ finds) same puts made e,
    ap (λ files. files.is_read_only) same,
  )

  sets_times : (beside path a : ℕ) (xs : List Access)
      → SetsTimes did writable bytes bytes' beside path a old new answer xs
      → SetsTimes (Allowed did old.is_read_only) writable bytes bytes' beside path a
      old new answer xs × KeepsRight old new
  sets_times beside path a xs (HasNoTimes took same is) =
      (HasNoTimes took same is, kept old new same)
  sets_times beside path a xs (HasTimes change first later took done made) =
      let all = by_path (λ text. ChangesName did text change)
      (λ text. ChangesName (Allowed did old.is_read_only) text change) beside path later
      (λ text. changes_name did old new answer text change) done in
      (HasTimes change first later took all.0 made, all.1)

  pub allowed : (request : FileRequest) (xs : List Access)
      → DoesFile did writable bytes bytes' request old new answer xs
      → DoesFile (Allowed did old.is_read_only) writable bytes bytes' request old new answer xs
      × KeepsRight old new
  allowed (FileRequest.Open beside path flags mode) xs does =
      by_path (λ text. Opens did text flags mode)
      (λ text. Opens (Allowed did old.is_read_only) text flags mode) beside path xs
      (λ text. opens did old new answer text flags mode) does
  allowed (FileRequest.Close descriptor) xs does =
      let all = closes did old new answer descriptor does.0 in ((all.0, does.1, does.2), all.1)
  allowed (FileRequest.Copy descriptor) xs does =
      let all = copies did old new answer descriptor 0 does.0 in ((all.0, does.1, does.2), all.1)
  allowed (FileRequest.CopyTo descriptor to flags) xs does =
      let all = copies_to did old new answer descriptor to flags does.0 in
      ((all.0, does.1, does.2), all.1)
  allowed (FileRequest.Seek descriptor offset from a) xs does = seeks descriptor offset from a xs does
  allowed (FileRequest.List descriptor a count) xs does = lists descriptor a count xs does
  allowed (FileRequest.Read descriptor a count) xs does = reads descriptor None a count xs does
  allowed (FileRequest.ReadAt descriptor offset a count) xs does =
      reads descriptor (Some offset) a count xs does
  allowed (FileRequest.Write descriptor a count) xs does =
      let all = writes did old.is_read_only bytes descriptor None a count old new answer xs
      (free_to_write old descriptor) does.0 in ((all.0, does.1), all.1)
  allowed (FileRequest.WriteAt descriptor offset a count) xs does =
      let all = writes did old.is_read_only bytes descriptor (Some offset) a count old new answer xs
      (free_to_write old descriptor) does.0 in ((all.0, does.1), all.1)
  allowed (FileRequest.WritePieces descriptor a count) xs does =
      let all = writes_pieces did old.is_read_only bytes descriptor a count answer old new xs
      (free_to_write old descriptor) does.0 in ((all.0, does.1), all.1)
  allowed (FileRequest.Status descriptor a) xs does = tells descriptor a Form.Stat64 xs does
  allowed (FileRequest.NamedStatus beside path flags a) xs does =
      tells_named beside path flags a Form.Stat64 xs does
  allowed (FileRequest.ExtendedStatus beside path flags a) xs does =
      tells_named beside path flags a Form.Statx xs does
  allowed (FileRequest.Link beside path a size) xs does = reads_link beside path a size xs does
  allowed (FileRequest.ChangeFile descriptor change) xs does =
      let all = changed did old new answer descriptor change does.0 in
      ((all.0, does.1, does.2), all.1)
  allowed (FileRequest.Own descriptor owner group) xs does =
      let all = owns did old new answer descriptor owner group does.0 in
      ((all.0, does.1, does.2), all.1)
  allowed (FileRequest.ChangeName beside path change) xs does =
      by_path (λ text. ChangesName did text change)
      (λ text. ChangesName (Allowed did old.is_read_only) text change) beside path xs
      (λ text. changes_name did old new answer text change) does
  allowed (FileRequest.Rename beside path beside' path') xs does =
      by_paths (Renames did) (Renames (Allowed did old.is_read_only)) beside path beside' path' xs
      (renames did old new answer) does
  allowed (FileRequest.Test beside path asked) xs does =
      by_path (λ text. Tests did text asked) (λ text. Tests (Allowed did old.is_read_only) text asked)
      beside path xs (λ text. tests did old new answer text asked) does
  allowed (FileRequest.Control descriptor command argument) xs does =
      let all = controls did old new answer descriptor command argument does.0 in
      ((all.0, does.1, does.2), all.1)
  allowed (FileRequest.ControlDevice descriptor) xs does =
      let all = controls_device did old new answer descriptor does.0 in
      ((all.0, does.1, does.2), all.1)
  allowed (FileRequest.SetTimes beside path a) xs does = sets_times beside path a xs does
  allowed (FileRequest.Folder a size) xs does = (does, kept old new does.1)
  allowed (FileRequest.Refused said) xs does = (does, kept old new does.0)
