-- Which descriptors are open: 67 at most, from 0 on. Each has a file of the folder, by its number, or
-- a standard stream: 0 is the input, 1 the output and 2 the errors. Several may have the same.
use Rattle.std.specs.Prelude.{◌≡◌, ◌≢◌, ℕ, ◌<◌, ◌≤◌, ◌==◌, not, bit_and, Bool, List, ◌∷◌, replicate, Option, Some, None, slice_index_or}
use Rattle.rrs_files.specs.declared.descriptors.Descriptors.{Descriptors as TheDescriptors}
use Rattle.rrs_files.specs.declared.descriptors.Target.{Target}
use Rattle.rrs_files.specs.declared.descriptors.Target.TheVariants.{File, Stream}

-- a file has one of 64 numbers
abbrev pub IsTarget : Target → Type 0
IsTarget (File at) = at < 64
IsTarget (Stream stream) = Unit {0}

-- a descriptor is open, and has this
abbrev pub HasTarget : List (Option Target) → (descriptor : ℕ) → Target → Type 0
HasTarget targets descriptor target =
    (descriptor < 67) × (slice_index_or targets descriptor None ≡ Some target) × IsTarget target

-- a descriptor is open, and this is the number of its file
abbrev pub IsOpen : List (Option Target) → (descriptor at : ℕ) → Type 0
IsOpen targets descriptor at = HasTarget targets descriptor (File at)

-- it has no file
abbrev pub IsClosed : List (Option Target) → (descriptor : ℕ) → Type 0
IsClosed targets descriptor = (at : ℕ) → IsOpen targets descriptor at → ⊥

-- it is not open
abbrev pub IsFree : List (Option Target) → (descriptor : ℕ) → Type 0
IsFree targets descriptor = (target : Target) → HasTarget targets descriptor target → ⊥

-- the stream that it has, if it has one
abbrev pub stream_in : Option Target → Option ℕ
stream_in (Some (Stream stream)) = Some stream
stream_in _ = None

abbrev pub stream_at : List (Option Target) → (descriptor : ℕ) → Option ℕ
stream_at targets descriptor = stream_in (slice_index_or targets descriptor None)

-- that of a descriptor, if there is one
abbrev pub stream_of : List (Option Target) → Option ℕ → Option ℕ
stream_of targets None = None
stream_of targets (Some descriptor) = stream_at targets descriptor

-- the first from a least one on that is free, as open(2) and dup(2) take the lowest descriptor
pub record IsFirstFree (targets : List (Option Target)) (least place : ℕ) : Type 0 where
  pub low : least ≤ place
  pub high : place < 67
  pub free : slice_index_or targets place None ≡ None
  pub first : (before : ℕ) → least ≤ before → before < place
      → slice_index_or targets before None ≢ None

-- none is free
abbrev pub IsFull : List (Option Target) → (least : ℕ) → Type 0
IsFull targets least =
    (place : ℕ) → least ≤ place → place < 67 → slice_index_or targets place None ≢ None

-- some descriptor has this
abbrev pub IsUsed : List (Option Target) → Target → Type 0
IsUsed targets target =
    (place : ℕ) × (place < 67) × (slice_index_or targets place None ≡ Some target)

-- a number of a file that no descriptor has
abbrev pub IsUnused : List (Option Target) → (at : ℕ) → Type 0
IsUnused targets at = (at < 64) × (IsUsed targets (File at) → ⊥)

-- there is none
abbrev pub AreUsed : List (Option Target) → Type 0
AreUsed targets = (at : ℕ) → IsUnused targets at → ⊥

-- what is kept of the flags of openat: the access mode (O_WRONLY is 1, O_RDWR 2), and O_APPEND
abbrev pub kept_flags : ℕ → ℕ
kept_flags flags = bit_and flags 0x403

-- a descriptor is open to be written
abbrev pub may_write : (flags : List ℕ) → (descriptor : ℕ) → Bool
may_write flags descriptor = not (bit_and (slice_index_or flags descriptor 0) 3 == 0)

-- At first the standard streams are open alone: the input to be read (O_RDONLY is 0), and the others
-- to be written.
pub record AreStreams (d : TheDescriptors) : Type 0 where
  pub targets : d.targets
      ≡ Some (Stream 0) ∷ Some (Stream 1) ∷ Some (Stream 2) ∷ replicate 64 None
  pub flags : d.flags ≡ 0 ∷ 1 ∷ 1 ∷ replicate 64 0
