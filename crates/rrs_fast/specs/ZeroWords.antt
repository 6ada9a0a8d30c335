-- Words that are 0 until they are written, as bytes: one after another, each as four bytes, lowest
-- first.
use Rattle.std.specs.Prelude.{ℕ, ◌/◌, ◌%◌, ◌^◌, List, slice_index_or, Some}
use Rattle.rrs_memory.specs.Bytes.{ByteMap}

-- the byte at each place: past the words that are there it is 0
abbrev pub bytes_or_zero : List ℕ → ByteMap
bytes_or_zero words place = Some (slice_index_or words (place / 4) 0 / 256 ^ (place % 4) % 256)
