-- Pages and what a program may do with them (ELF, "Program Header": the segment flags PF_R, PF_W
-- and PF_X say whether a segment's pages are readable, writable and executable; mmap(2)). A page
-- has 4,096 bytes. What can be read can be fetched from.
use Rattle.std.specs.Prelude.{◌≡◌, ℕ, ◌+◌, ◌*◌, ◌/◌, ◌<◌, Bool, true, false, ◌&&◌, nat_lt, if◌then◌else◌, List, [], ◌∷◌, length, slice_index_or, Option, None}
use Rattle.std.specs.Bool.{OnTrue, OnFalse}
use Rattle.rrs_memory.specs.declared.MemAccessSize.{MemAccessSize}
use Rattle.rrs_memory.specs.Bytes.{ByteMap, width, store}
use Rattle.rrs_exec.specs.declared.marks.PageRange.{PageRange}
use Rattle.rrs_exec.specs.declared.marks.Protection.{Protection}
use Rattle.rrs_exec.specs.declared.marks.Protection.TheVariants.{Unmapped, ReadOnly, Writable}
use Rattle.rrs_exec.specs.declared.protected.ProtectedMemory.{ProtectedMemory}
use Rattle.rrs_exec.specs.ProcessMemories.{process_bytes, process_writable, process_layout}

abbrev pub is_mapped : Protection → Bool
is_mapped Unmapped = false
is_mapped ReadOnly = true
is_mapped Writable = true

abbrev pub is_writable : Protection → Bool
is_writable Unmapped = false
is_writable ReadOnly = false
is_writable Writable = true

-- ---- marks

-- the one of two that allows more
abbrev pub stronger : Protection → Protection → Protection
stronger Writable other = Writable
stronger ReadOnly Writable = Writable
stronger ReadOnly ReadOnly = ReadOnly
stronger ReadOnly Unmapped = ReadOnly
stronger Unmapped other = other

-- whether page p has an address of the range
abbrev pub touches : PageRange → ℕ → Bool
touches r p = nat_lt r.start r.end && (nat_lt r.start (4096 * p + 4096) && nat_lt (4096 * p) r.end)

-- the most that a mark and the ranges in page p allow
abbrev pub marked_from : Protection → List PageRange → ℕ → Protection
marked_from mark [] p = mark
marked_from mark (r ∷ rs) p =
    marked_from (if touches r p then stronger mark r.protection else mark) rs p

-- the most that the ranges in page p allow: nothing, where there is none
abbrev pub mark_of : List PageRange → ℕ → Protection
mark_of ranges p = marked_from Unmapped ranges p

-- the marks of so many pages
pub record IsMarkedBy (ranges : List PageRange) (pages : ℕ) (marks : List Protection) : Type 0 where
  pub long : length marks ≡ pages
  pub each : (p : ℕ) → p < pages → slice_index_or marks p Unmapped ≡ mark_of ranges p

-- the mark of the page of an address: a page past the last mark is not mapped
abbrev pub mark_at : List Protection → ℕ → Protection
mark_at marks a = slice_index_or marks (a / 4096) Unmapped

-- ---- the memory

-- what is left of a memory's bytes under marks
abbrev pub bytes_under : List Protection → ByteMap → ByteMap
bytes_under marks bytes a = if is_mapped (mark_at marks a) then bytes a else None

-- which of a memory's writable addresses are writable under marks
abbrev pub writable_under : List Protection → (ℕ → Bool) → ℕ → Bool
writable_under marks writable a =
    if is_writable (mark_at marks a) then writable a else false

abbrev pub protected_bytes : ProtectedMemory → ByteMap
protected_bytes m = bytes_under m.marks.items (process_bytes m.memory)

abbrev pub protected_writable : ProtectedMemory → ℕ → Bool
protected_writable m = writable_under m.marks.items (process_writable m.memory)

abbrev pub protected_layout : ProtectedMemory → List ℕ
protected_layout m = process_layout m.memory

-- a read leaves the whole value
abbrev pub protected_reads : ProtectedMemory → ℕ → MemAccessSize → ProtectedMemory → Option ℕ
    → Type 0
protected_reads old address size new answer = new ≡ old

-- a write that is granted stores its bytes, and one that is refused leaves the whole value
pub record ProtectedWrites (old : ProtectedMemory) (address : ℕ) (size : MemAccessSize) (value : ℕ)
    (new : ProtectedMemory) (answer : Bool) : Type 0 where
  pub written : OnTrue answer
      (protected_bytes new ≡ store (protected_bytes old) address (width size) value)
  pub refused : OnFalse answer (new ≡ old)
  pub marks_kept : new.marks ≡ old.marks
