-- What uname puts into memory (uname(2); linux/utsname.h, struct new_utsname, 390 bytes): six
-- fields of 65 bytes. Each has a text with zeros behind it.
use Rattle.std.specs.Prelude.{ℕ, ◌-◌, List, ◌++◌, length, replicate, codes}

-- a text, and zeros up to 65 bytes
abbrev pub field : List ℕ → List ℕ
field text = text ++ replicate (65 - length text) 0

abbrev pub system_names : List ℕ
system_names =
    field (codes "Linux")  -- sysname
    ++ field (codes "rrs")  -- nodename
    ++ field (codes "6.1.0")  -- release
    ++ field (codes "#1")  -- version
    ++ field (codes "riscv32")  -- machine
    ++ field (codes "(none)")  -- domainname
