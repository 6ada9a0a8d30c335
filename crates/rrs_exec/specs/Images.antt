-- What a process starts from that runs an executable (System V ABI, "Process Initialization" and
-- "Program Loading").
use Rattle.std.specs.Prelude.{◌≡◌, ◌==◌, ◌≢◌, ◌⊎◌, ℕ, zero, suc, ◌+◌, ◌-◌, ◌/◌, ◌%◌, ◌^◌, ◌<◌, ◌≤◌, Bool, true, false, ◌&&◌, ◌||◌, nat_le, nat_lt, min, max, if◌then◌else◌, List, [], ◌∷◌, ◌++◌, length, slice_index, Option, Some, None}
use Rattle.rrs_memory.specs.Bytes.{ByteMap}
use Rattle.rrs_elf.specs.Headers.{e_entry, e_phoff, e_phnum, p_type, p_offset, p_vaddr, p_filesz, p_memsz, p_flags, segment_start}
use Rattle.rrs_elf.specs.declared.program_headers.Addresses.{Addresses}
use Rattle.rrs_elf.specs.Executables.{PT_LOAD}
use Rattle.rrs_elf.specs.Loading.{loaded_size, segment_byte}
use Rattle.rrs_exec.specs.declared.marks.PageRange.{PageRange}
use Rattle.rrs_exec.specs.declared.marks.Protection.{Protection}
use Rattle.rrs_exec.specs.declared.marks.Protection.TheVariants.{Unmapped, ReadOnly, Writable}
use Rattle.rrs_exec.specs.declared.layout.Layout.{Layout}
use Rattle.rrs_exec.specs.declared.stack.ProgramHeaders.{ProgramHeaders}
use Rattle.rrs_exec.specs.declared.image.Image.{Image}
use Rattle.rrs_exec.specs.Protection.{IsMarkedBy}
use Rattle.rrs_exec.specs.InitialStack.{stack_bytes, stack_pointer, stack_block}
use Rattle.rrs_exec.specs.declared.image.ImageError.{ImageError}
use Rattle.rrs_exec.specs.declared.image.ImageError.TheVariants.{NoRoom, NeedsMemory, LongArguments, Refused, OutOfMemory}
use Rattle.rrs_exec.specs.Layouts.{has_room, needed, IsLayout}

-- the addresses of the first n segments that are loaded lie from start to before end
abbrev pub AllWithin : List ℕ → ℕ → ℕ → ℕ → Type 0
AllWithin file n start end = (i j : ℕ) → i < n → j < loaded_size file i
    → (start ≤ p_vaddr file i + j) × (p_vaddr file i + j < end)

-- ---- which addresses it has

-- the lower of an address and the first of segment i, if it is loaded and has one
abbrev pub first_with : List ℕ → ℕ → ℕ → ℕ
first_with file i other =
    if loaded_size file i == 0 then other else min other (p_vaddr file i)

-- the higher of an address and the one after its last
abbrev pub end_with : List ℕ → ℕ → ℕ → ℕ
end_with file i other =
    if loaded_size file i == 0 then other else max other (p_vaddr file i + loaded_size file i)

-- the lowest address of the first n segments, and 2^32 - 1 where they have none
abbrev pub first_below : List ℕ → ℕ → ℕ
first_below file zero = 2 ^ 32 - 1
first_below file (suc n) = first_with file n (first_below file n)

-- the address after their last, and 0 where they have none
abbrev pub end_below : List ℕ → ℕ → ℕ
end_below file zero = 0
end_below file (suc n) = end_with file n (end_below file n)

abbrev pub first_address : List ℕ → ℕ
first_address file = first_below file (e_phnum file)

abbrev pub end_address : List ℕ → ℕ
end_address file = end_below file (e_phnum file)

-- How many bytes of memory a process of a program needs at least: 0 where there is no room after
-- it.
abbrev pub needed_of : List ℕ → ℕ
needed_of file =
    if has_room (end_address file) then needed (first_address file) (end_address file) else 0

-- Why no process is made of a program with addresses from start to before end, where so many bytes
-- of memory are wanted: there is no room after it, or it needs more bytes.
abbrev pub refusal_between : ℕ → ℕ → ℕ → Option ImageError
refusal_between start end wanted =
    if has_room end
    then (if nat_lt wanted (needed start end) then Some (NeedsMemory (needed start end)) else None)
    else Some NoRoom

abbrev pub memory_refusal : List ℕ → ℕ → Option ImageError
memory_refusal file wanted = refusal_between (first_address file) (end_address file) wanted

-- The arguments and the environment's strings don't fit in the stack of the process.
abbrev pub AreLong : List ℕ → List (List ℕ) → List (List ℕ) → ℕ → Type 0
AreLong file arguments variables wanted = (l : Layout)
    × IsLayout (first_address file) (end_address file) wanted l
    × (stack_pointer l.end arguments variables < l.stack_start)

-- another reason: its arguments and environment, or the memory of the host
abbrev pub IsOtherReason : ImageError → Type 0
IsOtherReason error = (error ≡ LongArguments) ⊎ (error ≡ OutOfMemory)

-- ---- what may be done at which addresses

-- by the flags of a segment: PF_X is 1, PF_W is 2 and PF_R is 4
abbrev pub protection_by : ℕ → Protection
protection_by flags =
    if flags / 2 % 2 == 1 then Writable
    else if (flags / 4 % 2 == 1) || (flags % 2 == 1) then ReadOnly else Unmapped

abbrev pub range_of : List ℕ → ℕ → PageRange
range_of file i = record {
  start = p_vaddr file i;
  end = p_vaddr file i + p_memsz file i;
  protection = protection_by (p_flags file i);
}

-- of segment i, if it is loaded
abbrev pub segment_range : List ℕ → ℕ → List PageRange
segment_range file i = if p_type file i == PT_LOAD then range_of file i ∷ [] else []

-- the ranges of the first n segments that are loaded
abbrev pub segment_ranges : List ℕ → ℕ → List PageRange
segment_ranges file zero = []
segment_ranges file (suc n) = segment_ranges file n ++ segment_range file n

-- addresses that are writable
abbrev pub writable_range : ℕ → ℕ → PageRange
writable_range start end = record { start = start; end = end; protection = Writable }

-- the segments, the heap and the stack
abbrev pub ranges_of : List ℕ → Layout → List PageRange
ranges_of file l = segment_ranges file (e_phnum file)
    ++ (writable_range l.heap_start l.heap_end ∷ writable_range l.stack_start l.end ∷ [])

-- ---- what it is told of its program headers

-- the bytes of segment i in the file have the first program header among them
abbrev pub has_headers : List ℕ → ℕ → Bool
has_headers file i = (p_type file i == PT_LOAD)
    && (nat_le (p_offset file i) (e_phoff file)
    && nat_lt (e_phoff file) (p_offset file i + p_filesz file i))

abbrev pub headers_in : List ℕ → ℕ → ℕ → ℕ
headers_in file i other =
    if has_headers file i
    then (p_vaddr file i + (e_phoff file - p_offset file i)) % 2 ^ 32 else other

-- the address of the first program header, or 0 where none of the first n segments has it
abbrev pub headers_at : List ℕ → ℕ → ℕ
headers_at file zero = 0
headers_at file (suc n) = headers_in file n (headers_at file n)

abbrev pub headers_of : List ℕ → ProgramHeaders
headers_of file = record {
  address = headers_at file (e_phnum file);
  count = e_phnum file;
  entry = e_entry file;
}

-- ---- the whole

-- This is what it starts from with these arguments and the environment's strings, where so many
-- bytes of memory are wanted.
pub record IsImage (file : List ℕ) (arguments variables : List (List ℕ)) (wanted : ℕ)
    (image : Image) : Type 0 where
  -- the program has addresses from start to before end, and the memory is laid out around it
  pub start : ℕ
  pub end : ℕ
  pub starts : start ≡ first_address file
  pub ends : end ≡ end_address file
  pub program : AllWithin file (e_phnum file) start end
  pub laid_out : IsLayout start end wanted image.layout
  pub entry_is : image.entry ≡ e_entry file
  -- sp, a multiple of 16 in the stack, and what lies there
  pub pointer : image.stack_pointer ≡ stack_pointer image.layout.end arguments variables
  pub aligned : image.stack_pointer % 16 ≡ 0
  pub on_stack : image.layout.stack_start ≤ image.stack_pointer
  pub fits : image.stack_pointer + stack_bytes arguments variables ≤ image.layout.end
  pub stack_is : image.stack.items
      ≡ stack_block image.stack_pointer arguments variables (headers_of file)
  -- the marks of its pages
  pub marked : IsMarkedBy (ranges_of file image.layout) (image.layout.end / 4096) image.marks.items

-- A memory is writable where the segments, at these of their addresses, and so many bytes from sp
-- on lie.
pub record IsFillable (at : Addresses) (file : List ℕ) (sp size : ℕ) (writable : ℕ → Bool)
    : Type 0 where
  pub segments : (i j : ℕ) → i < e_phnum file → j < loaded_size file i
      → writable (segment_start at file i + j) ≡ true
  pub stack : (k : ℕ) → k < size → writable (sp + k) ≡ true
  pub ends : sp + size < 2 ^ 32

-- an address of the segments, or one of so many from sp on
abbrev pub IsToFill : Addresses → List ℕ → ℕ → ℕ → ℕ → Type 0
IsToFill at file sp size a =
    ((i j : ℕ) × (i < e_phnum file) × (j < loaded_size file i)
    × (a ≡ segment_start at file i + j))
    ⊎ (sp ≤ a) × (a < sp + size)

-- Why a memory is not filled: it refuses such an address, or the stack passes the last address,
-- for which sp is told; or the host has no memory.
abbrev pub IsRefusal : Addresses → List ℕ → ℕ → ℕ → (ℕ → Bool) → ImageError → Type 0
IsRefusal at file sp size writable (Refused a) =
    (writable a ≡ false) × IsToFill at file sp size a ⊎ (a ≡ sp) × (2 ^ 32 < sp + size)
IsRefusal at file sp size writable OutOfMemory = Unit {0}
IsRefusal at file sp size writable _ = ⊥

-- The segments of a file stand in memory at these of their addresses, each with the bytes of the
-- file and then zeros, and the bytes of a stack from sp on; all other bytes are as before.
pub record Filled (at : Addresses) (file : List ℕ) (sp : ℕ) (stack : List ℕ) (old new : ByteMap)
    : Type 0 where
  pub segments : (i j : ℕ) → i < e_phnum file → j < loaded_size file i
      → new (segment_start at file i + j) ≡ Some (segment_byte file i j)
  pub stack_there : (i : ℕ) → i < length stack → new (sp + i) ≡ Some (slice_index stack i)
  pub others : (a : ℕ)
      → ((i j : ℕ) → i < e_phnum file → j < loaded_size file i → a ≢ segment_start at file i + j)
      → (a < sp) ⊎ (sp + length stack ≤ a) → new a ≡ old a
