-- The status of a file as fstat64 and fstatat64 put it into memory (asm-generic/stat.h, struct
-- stat64 of 32 bits, 104 bytes), and statx (linux/stat.h, struct statx, 256 bytes; the bytes of a
-- field lowest first).
use Rattle.std.specs.Prelude.{ℕ, ◌+◌, ◌*◌, ◌/◌, ◌%◌, ◌^◌, List, ◌++◌, replicate}
use Rattle.std.specs.Int.{to_le_bytes, w64}
use Rattle.rrs_linux.specs.Statuses.{extended_status, stream_status}
use Rattle.rrs_files.specs.declared.folder.Moment.{Moment}
use Rattle.rrs_files.specs.declared.folder.Status.{Status}
use Rattle.rrs_files.specs.declared.statuses.Form.{Form}

-- two words of 64 bits
abbrev pub two_words : ℕ → ℕ → List ℕ
two_words first second = to_le_bytes w64 first ++ to_le_bytes w64 second

-- two fields of 32 bits in a word of 64
abbrev pub pair : ℕ → ℕ → ℕ
pair first second = second * 2 ^ 32 + first

-- a time: seconds modulo 2^32, and nanoseconds
abbrev pub moment_word : Moment → ℕ
moment_word moment = pair (moment.seconds % 2 ^ 32) moment.nanos

abbrev pub status_bytes : Status → List ℕ
status_bytes status =
    two_words status.device status.number  -- st_dev, st_ino
    ++ two_words (pair status.mode status.links) (pair status.owner status.group)
    ++ replicate 16 0  -- st_rdev, which is not told
    ++ two_words status.size status.block_size
    ++ two_words status.blocks (moment_word status.accessed)
    ++ two_words (moment_word status.modified) (moment_word status.changed)
    ++ replicate 8 0

-- the two numbers of a device, which stand in 12 and 20 bits of its number: the first from the 9th
-- bit on, and the other in the lowest 8 and from the 21st on
abbrev pub device_numbers : ℕ → ℕ
device_numbers device =
    pair (device / 2 ^ 8 % 2 ^ 12) (device / 2 ^ 20 % 2 ^ 12 * 2 ^ 8 + device % 2 ^ 8)

-- struct statx before and after stx_btime, which is not told. All that its basic mask names is
-- given (STATX_BASIC_STATS, 0x7ff).
abbrev pub extended_front : Status → List ℕ
extended_front status =
    two_words (pair 0x7ff status.block_size) 0  -- stx_mask, stx_blksize, stx_attributes
    ++ two_words (pair status.links status.owner) (pair status.group (status.mode % 2 ^ 16))
    ++ two_words status.number status.size  -- stx_ino, stx_size
    ++ two_words status.blocks 0
    ++ two_words status.accessed.seconds status.accessed.nanos

abbrev pub extended_back : Status → List ℕ
extended_back status =
    two_words status.changed.seconds status.changed.nanos
    ++ two_words status.modified.seconds status.modified.nanos
    ++ two_words 0 (device_numbers status.device)  -- stx_rdev_major to stx_dev_minor

abbrev pub extended_bytes : Status → List ℕ
extended_bytes status =
    extended_front status ++ replicate 16 0 ++ extended_back status ++ replicate 112 0

-- the bytes of a structure
abbrev pub told_bytes : Form → Status → List ℕ
told_bytes Form.Stat64 status = status_bytes status
told_bytes Form.Statx status = extended_bytes status

-- the same for a standard stream, as rrs_linux tells of it
abbrev pub stream_bytes : Form → List ℕ
stream_bytes Form.Stat64 = stream_status
stream_bytes Form.Statx = extended_status
