-- The entries of a directory as getdents64 puts them into memory (getdents(2), struct
-- linux_dirent64; the bytes of a field lowest first).
use Rattle.std.specs.Prelude.{◌≡◌, ◌≢◌, ℕ, ◌+◌, ◌-◌, ◌*◌, ◌/◌, ◌%◌, ◌^◌, ◌<◌, ◌≤◌, ◌==◌, min, if◌then◌else◌, List, [], ◌∷◌, ◌++◌, length, replicate, Option, Some, None, Result, Ok, Err}
use Rattle.std.specs.Int.{to_le_bytes, w16, w64}
use Rattle.rrs_linux.specs.Requests.{error}
use Rattle.rrs_files.specs.declared.entries.Step.{Step}
use Rattle.rrs_files.specs.declared.folder.Entry.{Entry}
use Rattle.rrs_files.specs.declared.folder.Status.{Status}
use Rattle.rrs_files.specs.Events.{Did, Listed, Sought, Told}
use Rattle.rrs_files.specs.Paths.{kind}

-- how many bytes the entry of a name has (d_reclen): 19, the name and the 0 that ends it, up to the
-- next multiple of 8
abbrev pub record_size : List ℕ → ℕ
record_size name = (19 + length name + 8) / 8 * 8

-- its bytes, where the next entry is at this position: d_ino, d_off, d_reclen, d_type, and d_name
-- with its 0 and those after it
abbrev pub entry_bytes : Entry → (name : List ℕ) → (next : ℕ) → List ℕ
entry_bytes entry name next =
    to_le_bytes w64 entry.number ++ to_le_bytes w64 next ++ to_le_bytes w16 (record_size name)
    ++ (entry.kind ∷ []) ++ name ++ replicate (record_size name - 19 - length name) 0

-- An entry is added to a text, where its bytes have room.
pub data PutsEntry (most : ℕ) (entry : Entry) (name : List ℕ) (next : ℕ) (old new : List ℕ) : Step → Type 0
  where
    HasRoom :
        length old + record_size name ≤ most → new ≡ old ++ entry_bytes entry name next
        → PutsEntry most entry name next old new Step.Added
    HasNone :
        most < length old + record_size name → new ≡ old
        → PutsEntry most entry name next old new Step.Full

-- how a list of entries ends at a position where so many were added before, if it does: there are
-- no more, or the next one has no room; where none was added, that is an error (EINVAL is 22)
abbrev pub ended_by : Step → (count position : ℕ) → Option (Result ℕ ℕ)
ended_by Step.Added count position = None
ended_by Step.Ended count position = Some (Ok position)
ended_by Step.Full count position =
    Some (if count == 0 then Err (error 22) else Ok position)
ended_by (Step.Failed e) count position =
    Some (if count == 0 then Err e else Ok position)

-- By what a folder says of a call, for the directory at a number, and bytes of which there is room
-- for so many:
module _ {F : Type 0} (did : Did F) (at : ℕ) where
  -- The entry at a position is asked for, and added to a text.
  pub data AddsEntry (position most : ℕ) (text text' : List ℕ) (old new : F) (step : Step) : Type 0
    where
      IsEntry : (entry : Entry) (name : List ℕ)
          → did old (Listed at position name (Ok (Some entry))) new
          → PutsEntry most entry name ((position + 1) % 2 ^ 64) text text' step
          → AddsEntry position most text text' old new step
      IsLast :
          did old (Listed at position [] (Ok None)) new → text' ≡ text → step ≡ Step.Ended
          → AddsEntry position most text text' old new step
      HasNoEntry : (e : ℕ)
          → did old (Listed at position [] (Err e)) new → text' ≡ text → step ≡ Step.Failed e
          → AddsEntry position most text text' old new step

  -- So many entries were added, from a position on, each at the next one.
  pub data Added (from most : ℕ) (old : F) : (count : ℕ) → (text : List ℕ) → F → Type 0 where
    NoneYet : Added from most old 0 [] old
    OneMore : (count : ℕ) (text text' : List ℕ) (now next : F)
        → Added from most old count text now
        → AddsEntry ((from + count) % 2 ^ 64) most text text' now next Step.Added
        → Added from most old (count + 1) text' next

  -- All are added that have room, and this is the position after them, or the error.
  pub record ListsEntries (from most : ℕ) (old new : F) (text : List ℕ) (next : Result ℕ ℕ) : Type 0
    where
      pub count : ℕ
      pub before : List ℕ
      pub now : F
      pub step : Step
      pub added : Added from most old count before now
      pub last : AddsEntry ((from + count) % 2 ^ 64) most before text now new step
      pub ended : ended_by step count ((from + count) % 2 ^ 64) ≡ Some next

  -- What is at the number has to be a directory (ENOTDIR is 20). Its entries are listed from its
  -- position on, 65,536 bytes at most.
  pub data ReadsDirectory (count : ℕ) (old new : F) (text : List ℕ) (next : Result ℕ ℕ) : Type 0
    where
      HasNoKind : (e : ℕ)
          → did old (Told at (Err e)) new → text ≡ [] → next ≡ Err e
          → ReadsDirectory count old new text next
      IsNoDirectory : (status : Status)
          → did old (Told at (Ok status)) new → kind status ≢ 0x4000
          → text ≡ [] → next ≡ Err (error 20) → ReadsDirectory count old new text next
      HasNoPosition : (status : Status) (mid : F) (e : ℕ)
          → did old (Told at (Ok status)) mid → kind status ≡ 0x4000
          → did mid (Sought at 1 0 (Err e)) new
          → text ≡ [] → next ≡ Err e → ReadsDirectory count old new text next
      IsListed : (status : Status) (mid now : F) (position : ℕ)
          → did old (Told at (Ok status)) mid → kind status ≡ 0x4000
          → did mid (Sought at 1 0 (Ok position)) now
          → ListsEntries position (min count 65536) now new text next
          → ReadsDirectory count old new text next
