-- The commit log of Spike, the RISC-V ISA simulator: a line for each instruction that retires, with
-- the hart, the privilege mode, the pc and the word, the register that it wrote with its value, and
-- its load or store. Each line ends with a line feed, which is 10.
use Rattle.std.specs.Prelude.{◌≡◌, ℕ, ◌%◌, ◌==◌, ◌&&◌, nat_le, nat_lt, if◌then◌else◌, Bool, true, false, List, [], ◌∷◌, ◌++◌, map, codes, Option, Some, None}
use Rattle.std.specs.Fmt.{decimal}
use Rattle.std.specs.Io.KnownBytes.{Appends}
use Rattle.rrs_lib.specs.Texts.{hexadecimal}
use Rattle.rrs_trace.specs.declared.retired.Retired.{Retired}
use Rattle.rrs_fast.specs.declared.serving.Ending.{Ending}
use Rattle.rrs_linux.specs.declared.Process.{Process}
use Rattle.rrs_linux.specs.declared.host_writer.HostWriter.{HostWriter}
use Rattle.rrs_linux.specs.declared.host_side.HostSide.{HostSide}
use Rattle.rrs_words.specs.declared.csrs.HartProfile.{HartProfile}
use Rattle.rrs_reports.specs.Records.{RunsWithRecords}
use Rattle.rrs_reports.specs.declared.commit_log.CodeRange.{CodeRange}
use Rattle.rrs_reports.specs.declared.commit_log.StepRange.{StepRange}
use Rattle.rrs_reports.specs.declared.commit_log.LogWindow.{LogWindow}
use Rattle.rrs_reports.specs.declared.commit_log.CommitLog.{CommitLog}
use Rattle.rrs_trace.specs.declared.traced.MemoryAccess.{MemoryAccess}

-- the word of an ecall, which a run that is served retires
abbrev pub ecall : ℕ
ecall = 115

-- the word that was committed: none after an exception that is no ecall
abbrev pub committed : Retired → Option ℕ
committed r = if r.trap then (of_call r.insn) else r.insn
  where
    of_call : Option ℕ → Option ℕ
    of_call None = None
    of_call (Some w) = if w == ecall then Some w else None

-- a register in a field of two columns, and the value that it has after the instruction
abbrev pub written_text : ℕ → ℕ → List ℕ
written_text r value =
    if r == 0 then []
    else codes " x" ++ decimal r ++ (if nat_lt r 10 then codes " " else [])
    ++ codes " 0x" ++ hexadecimal 8 value

-- the digits of a value that is stored: two for each of its bytes, of which the mask has a bit
abbrev pub store_digits : ℕ → ℕ
store_digits mask = if mask == 1 then 2 else (if mask == 3 then 4 else 8)

-- the address of what is read, and that of what is written with the value: an AMO has both
abbrev pub load_text : MemoryAccess → List ℕ
load_text m = if m.rmask == 0 then [] else codes " mem 0x" ++ hexadecimal 8 m.addr

abbrev pub store_text : MemoryAccess → List ℕ
store_text m =
    if m.wmask == 0 then []
    else codes " mem 0x" ++ hexadecimal 8 m.addr
    ++ codes " 0x" ++ hexadecimal (store_digits m.wmask) m.wdata

-- the digits of a word: half as many where it is compressed, and so its low bits are not 11
abbrev pub word_digits : ℕ → ℕ
word_digits word = if word % 4 == 3 then 8 else 4

-- the digit of a privilege mode: 3 is machine mode, and else it is user mode
abbrev pub mode_text : ℕ → List ℕ
mode_text mode = if mode == 3 then codes "3" else codes "0"

-- what begins the line of a record whose word was committed, in a mode
abbrev pub committed_text : ℕ → ℕ → Retired → List ℕ
committed_text mode word r =
    codes "core   0: " ++ mode_text mode ++ codes " 0x" ++ hexadecimal 8 r.pc_rdata
    ++ codes " (0x" ++ hexadecimal (word_digits word) word ++ codes ")"
    ++ written_text r.rd_addr r.rd_wdata

-- and what ends it
abbrev pub access_text : MemoryAccess → List ℕ
access_text m = load_text m ++ store_text m ++ 10 ∷ []

-- the line of a record of a process whose word was committed
abbrev pub commit_text : ℕ → Retired → List ℕ
commit_text word r = committed_text 3 word r ++ access_text r.mem

-- ---- what a step has in a log

-- a pc, how many steps were made before it, and the lines
pub record Entry : Type 0 where
  pub pc : ℕ
  pub number : ℕ
  pub lines : List ℕ

-- of a step of a process: a line, if its word was committed
abbrev pub entry_of : Retired → Entry
entry_of r = record { pc = r.pc_rdata; number = r.order; lines = line_of (committed r) }
  where
    line_of : Option ℕ → List ℕ
    line_of None = []
    line_of (Some word) = commit_text word r

-- ---- the log of a run

-- the entries from the first one at an address on, if one is asked for
abbrev pub from_first : Option ℕ → List Entry → List Entry
from_first None entries = entries
from_first (Some from) [] = []
from_first (Some from) (e ∷ entries) =
    if from == e.pc then e ∷ entries else from_first (Some from) entries

-- those up to the first one at an address, with it, if one is asked for
abbrev pub up_to : Option ℕ → List Entry → List Entry
up_to None entries = entries
up_to (Some to) [] = []
up_to (Some to) (e ∷ entries) = if to == e.pc then e ∷ [] else e ∷ up_to (Some to) entries

-- an address is in the code whose steps alone have lines
abbrev pub in_code : Option CodeRange → ℕ → Bool
in_code None pc = true
in_code (Some range) pc = nat_le range.start pc && nat_lt pc range.end

-- a step before which so many were made is one of those that alone have lines
abbrev pub in_steps : Option StepRange → ℕ → Bool
in_steps None number = true
in_steps (Some range) number = nat_le range.before number && nat_lt number range.until

abbrev pub has_lines : Option CodeRange → Option StepRange → Entry → Bool
has_lines only steps e = in_code only e.pc && in_steps steps e.number

-- the lines of the entries that have some
abbrev pub lines_of : Option CodeRange → Option StepRange → List Entry → List ℕ
lines_of only steps [] = []
lines_of only steps (e ∷ entries) =
    (if has_lines only steps e then e.lines else []) ++ lines_of only steps entries

-- The log of these entries: the lines of those from the first one at an address on, up to the next
-- one at another, that are in the code and have the numbers that are asked for.
abbrev pub log_text : LogWindow → List Entry → List ℕ
log_text w entries =
    if w.is_over then [] else lines_of w.only w.steps (up_to w.to (from_first w.from entries))

-- ---- the watcher that writes the log

-- the address from which on lines are written, after a step there: none once it was reached
abbrev pub still_from : Option ℕ → ℕ → Option ℕ
still_from None pc = None
still_from (Some from) pc = if from == pc then None else Some from

-- a step is the last one that has lines, where those are written from no later address on
abbrev pub is_last : Option ℕ → Option ℕ → ℕ → Bool
is_last (Some from) to pc = false
is_last None None pc = false
is_last None (Some to) pc = to == pc

-- what a step at an address leaves of a window
abbrev pub moved : LogWindow → ℕ → LogWindow
moved w pc = record w {
  from = still_from w.from pc;
  is_over = if w.is_over then true else is_last (still_from w.from pc) w.to pc;
}

-- lines are written from no later address on
abbrev pub is_reached : Option ℕ → Bool
is_reached (Some from) = false
is_reached None = true

-- the lines of a step are written
abbrev pub shows : LogWindow → Entry → Bool
shows w e =
    if w.is_over then false else is_reached (still_from w.from e.pc) && has_lines w.only w.steps e

-- What a step makes of the watcher: its lines are written, unless a write failed by then, and then
-- the watcher is broken. It writes to what it wrote to before.
pub record Logs {W : Type 0} (contents : W → Option (List ℕ)) (old : CommitLog W) (e : Entry)
    (new : CommitLog W) : Type 0 where
  pub same_out : new.out.ghost_name ≡ old.out.ghost_name
  pub window : new.window ≡ moved old.window e.pc
  pub stays_broken : old.is_broken ≡ true → new.is_broken ≡ true
  pub written : new.is_broken ≡ false → Appends (contents old.out.now) (contents new.out.now)
      (if shows old.window e then e.lines else [])

abbrev pub wants_lines : {W : Type 0} → CommitLog W → Bool
wants_lines log = if log.is_broken then false else true

-- ---- a run with its log

-- A run is one of `execute_process`, with so many steps, and its log is what was written.
pub record TracesProcess {R W E : Type 0} (p : HartProfile) (remaining : R → Option (List ℕ))
    (contents : W → Option (List ℕ)) (errors_of : E → Option (List ℕ))
    (file : List ℕ) (arguments variables : List (List ℕ)) (wanted limit : ℕ)
    (old new : Process R (HostWriter W) (HostWriter E) HostSide)
    (steps pc : ℕ) (ending : Ending) (window : LogWindow) (before after : Option (List ℕ))
    : Type 0 where
  pub records : List Retired
  pub runs : RunsWithRecords p remaining contents errors_of file arguments variables wanted limit
      old new steps pc ending records
  pub written : Appends before after (log_text window (map entry_of records))
