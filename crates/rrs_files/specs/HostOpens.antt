-- How a folder of the host opens what is below it: what is asked of the host, what is compared, and
-- the room of what open folders list.
use Rattle.std.specs.Prelude.{◌≡◌, ℕ, ◌+◌, false, Option, Some, None}
use Rattle.std.specs.Fs.{asks_append, asks_create, asks_create_new, asks_truncate, asks_write}
use Rattle.std.specs.declared.fs.options.OpenOptions.{OpenOptions}
use Rattle.rrs_files.specs.declared.folder.Status.{Status}
use Rattle.rrs_files.specs.declared.host_directory.HostDirectory.{HostDirectory}
use Rattle.rrs_files.specs.Paths.{kind}

-- nothing is asked but to read: neither to write, be it at the end, nor to cut or to make
pub record IsReading (options : OpenOptions) : Type 0 where
  pub writes : asks_write options ≡ false
  pub appends : asks_append options ≡ false
  pub cuts : asks_truncate options ≡ false
  pub creates : asks_create options ≡ false
  pub makes : asks_create_new options ≡ false

-- two statuses are of one file: they have the same device, the same number there, and the same kind
pub record IsSame (seen opened : Status) : Type 0 where
  pub device : seen.device ≡ opened.device
  pub number : seen.number ≡ opened.number
  pub kind_too : kind seen ≡ kind opened

-- what an entry of an open folder takes: 128 bytes, and those of its name
abbrev pub entry_room : (name : ℕ) → ℕ
entry_room name = 128 + name

-- what the entries of an open folder take, which has as many bytes as they took when they were read
abbrev pub taken_of : Option HostDirectory → ℕ
taken_of None = 0
taken_of (Some directory) = directory.taken
