-- The finisher (SiFive's test finisher, as QEMU has it): a word whose low half is 0x5555 ends the
-- program with status 0, one whose low half is 0x3333 with the status in the high half, and one
-- whose low half is 0x7777 starts the board anew. Any other does nothing, and a read gives 0.
use Rattle.std.specs.Prelude.{ℕ, ◌/◌, ◌%◌, ◌^◌, ◌==◌, Bool, if◌then◌else◌, Option, Some, None}

-- the status with which a word ends the program
abbrev pub status_of : ℕ → Option ℕ
status_of word =
    if word % 2 ^ 16 == 0x5555 then Some 0
    else (if word % 2 ^ 16 == 0x3333 then Some (word / 2 ^ 16) else None)

-- whether a word starts the board anew
abbrev pub restarts : ℕ → Bool
restarts word = word % 2 ^ 16 == 0x7777
