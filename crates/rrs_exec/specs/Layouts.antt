-- Where a process has its memory: the program, the heap after it up to which brk(2) may move the
-- break, a gap that is not mapped, so that a stack that grows too far meets no heap, and the stack.
use Rattle.std.specs.Prelude.{◌≡◌, ◌⊎◌, ℕ, ◌+◌, ◌-◌, ◌*◌, ◌/◌, ◌%◌, ◌^◌, ◌<◌, ◌≤◌, Bool, nat_le, min}
use Rattle.rrs_exec.specs.declared.layout.Layout.{Layout}

-- the first page that lies after an address, or begins there
abbrev pub page_from : ℕ → ℕ
page_from address = (address + 4095) / 4096 * 4096

-- after a program that ends there 1 MiB lies below the last page
abbrev pub has_room : ℕ → Bool
has_room end = nat_le (page_from end + 2 ^ 20) (2 ^ 32 - 4096)

-- How many bytes a program with addresses from start to before end needs: those of the pages from
-- its first to its last, and 1 MiB for its heap and its stack.
abbrev pub needed : ℕ → ℕ → ℕ
needed start end = page_from end + 2 ^ 20 - start / 4096 * 4096

-- This is where it is for a program with addresses from start to before end, where so many bytes
-- are wanted.
pub record IsLayout (start end wanted : ℕ) (l : Layout) : Type 0 where
  -- the memory begins with the page of the program's first address
  pub first : l.base ≤ start
  pub first_page : (l.base % 4096 ≡ 0) × (start < l.base + 4096)
  -- the heap lies after the program, from the next page on
  pub behind : end ≤ l.heap_start
  pub next_page : (l.heap_start % 4096 ≡ 0) × (l.heap_start < end + 4096)
  -- and ends 64 KiB below the stack, which has 256 KiB or more, and 8 MiB at most
  pub heap : l.heap_start ≤ l.heap_end
  pub gap : l.heap_end + 65536 ≡ l.stack_start
  pub stack : (l.stack_start + 262144 ≤ l.end) × (l.end ≤ l.stack_start + 8388608)
  pub stack_page : l.stack_start % 4096 ≡ 0
  pub end_page : l.end % 4096 ≡ 0
  -- half of what lies after the program is its stack, in whole pages, and 8 MiB at most
  pub half : l.stack_start + min ((l.end - l.heap_start) / 2) 8388608 / 4096 * 4096 ≡ l.end
  pub ordered : l.base ≤ l.end
  pub top : l.end ≤ 2 ^ 32 - 4096
  -- it has no more bytes than are wanted
  pub ceiling : l.end ≤ l.base + wanted
  -- and as many, but for a part of a page, or up to the last page
  pub enough : (l.base + wanted < l.end + 4096) ⊎ (l.end ≡ 2 ^ 32 - 4096)
