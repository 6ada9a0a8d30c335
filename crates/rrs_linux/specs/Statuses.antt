-- What fstat, newfstatat and statx put into memory (asm-generic/stat.h, struct stat64 of 32 bits,
-- 104 bytes; linux/stat.h, struct statx, 256 bytes; the bytes of a field lowest first), of which
-- file they tell, and how a call puts bytes there.
use Rattle.std.specs.Prelude.{◌≡◌, ℕ, ◌+◌, ◌^◌, ◌<◌, ◌≤◌, ◌==◌, ◌||◌, nat_le, bit_and, Bool, false, if◌then◌else◌, List, [], ◌∷◌, ◌++◌, length, replicate, Option, Some, None}
use Rattle.rrs_lib.specs.declared.MemAccessSize.TheVariants.{Byte}
use Rattle.rrs_lib.specs.Bytes.{ByteMap}
use Rattle.rrs_lib.specs.AccessLists.{Access, Read}
use Rattle.rrs_lib.specs.Loading.{Loaded, byte_writes}
use Rattle.rrs_linux.specs.declared.statuses.Lookup.{Lookup}
use Rattle.rrs_linux.specs.Requests.{error}

-- The status of a stream: a pipe that its owner may read and write (st_mode is S_IFIFO with 0600,
-- 0x1180), with one link, and blocks of 4,096 bytes. All else is 0.
abbrev pub stream_status : List ℕ
stream_status =
    replicate 16 0  -- st_dev, st_ino
    ++ (0x80 ∷ 0x11 ∷ 0 ∷ 0 ∷ [])  -- st_mode
    ++ (1 ∷ 0 ∷ 0 ∷ 0 ∷ [])  -- st_nlink
    ++ replicate 32 0  -- st_uid to st_size
    ++ (0 ∷ 0x10 ∷ 0 ∷ 0 ∷ [])  -- st_blksize
    ++ replicate 44 0  -- the blocks, and the times

-- The same as statx has it. All that its basic mask names is given (STATX_BASIC_STATS, 0x7ff).
abbrev pub extended_status : List ℕ
extended_status =
    (0xff ∷ 0x07 ∷ 0 ∷ 0 ∷ [])  -- stx_mask
    ++ (0 ∷ 0x10 ∷ 0 ∷ 0 ∷ [])  -- stx_blksize
    ++ replicate 8 0  -- stx_attributes
    ++ (1 ∷ 0 ∷ 0 ∷ 0 ∷ [])  -- stx_nlink
    ++ replicate 8 0  -- stx_uid, stx_gid
    ++ (0x80 ∷ 0x11 ∷ [])  -- stx_mode
    ++ replicate 226 0  -- stx_ino, stx_size, the blocks, the times, and the devices

-- Bytes are put at a, one after another, and this is answered.
pub data PutsBytes (writable : ℕ → Bool) (bytes bytes' : ByteMap) (a : ℕ) (whole : List ℕ)
    (accesses : List Access) (answer : ℕ) : Type 0 where
  IsPut :
      Loaded bytes bytes' writable a whole
      → accesses ≡ byte_writes writable a whole → answer ≡ 0
      → PutsBytes writable bytes bytes' a whole accesses answer
  -- the next address is not writable (EFAULT is 14): those before it are put
  IsRefused : (text : List ℕ) (byte : ℕ) (rest : List ℕ)
      → whole ≡ text ++ byte ∷ rest → a + length whole ≤ 2 ^ 32
      → Loaded bytes bytes' writable a text → writable (a + length text) ≡ false
      → accesses ≡ byte_writes writable a (text ++ byte ∷ []) → answer ≡ error 14
      → PutsBytes writable bytes bytes' a whole accesses answer
  -- they pass the last address
  PassesEnd :
      2 ^ 32 < a + length whole → Loaded bytes bytes' writable a []
      → accesses ≡ [] → answer ≡ error 14
      → PutsBytes writable bytes bytes' a whole accesses answer

-- ---- what a path names

-- The error that newfstatat and statx answer by the first byte of a path, if they do (fstatat(2),
-- statx(2)). There are no files but the streams, which an empty path names, beside a descriptor and
-- under AT_EMPTY_PATH. No more of a path is read. AT_FDCWD, which is -100, is no descriptor.
abbrev pub failed : Option ℕ → Lookup → Option ℕ
-- EFAULT is 14
failed None lookup = Some (error 14)
failed (Some byte) lookup =
    if byte == 0 then
    -- it is empty: ENOENT is 2, and EBADF is 9
    (if bit_and lookup.flags 0x1000 == 0 then Some (error 2)
    else (if nat_le lookup.descriptor 2 then None else Some (error 9)))
    -- it is absolute, or below the directory that the program is in
    else (if (byte == 47) || (lookup.descriptor == error 100) then Some (error 2)
    -- it is below what the descriptor has: ENOTDIR is 20
    else (if nat_le lookup.descriptor 2 then Some (error 20) else Some (error 9)))

-- The first byte of a path is read. Where it names a stream, bytes are put at a.
pub data PutsNamed (writable : ℕ → Bool) (bytes bytes' : ByteMap) (lookup : Lookup) (a : ℕ)
    (whole : List ℕ) (accesses : List Access) (answer : ℕ) : Type 0 where
  IsNamed : (put : List Access)
      → failed (bytes lookup.path) lookup ≡ None
      → PutsBytes writable bytes bytes' a whole put answer
      → accesses ≡ Read lookup.path Byte (bytes lookup.path) ∷ put
      → PutsNamed writable bytes bytes' lookup a whole accesses answer
  HasFailed :
      failed (bytes lookup.path) lookup ≡ Some answer → bytes' ≡ bytes
      → accesses ≡ Read lookup.path Byte (bytes lookup.path) ∷ []
      → PutsNamed writable bytes bytes' lookup a whole accesses answer
