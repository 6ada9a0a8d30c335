-- How often each unit of code was executed, a word or a half-word: the steps whose pc it was. A
-- fault is no step, and on a board no exception is but an ecall, and no interrupt.
use Rattle.std.specs.Prelude.{◌≡◌, ℕ, ◌+◌, ◌-◌, ◌*◌, ◌/◌, ◌%◌, ◌^◌, ◌<◌, ◌==◌, if◌then◌else◌, nat_lt, cond, min, List, length, map, get_or, count_by, Bool, true, false, Option, Some, None}
use Rattle.rrs_lib.specs.Bytes.{ByteMap, little_endian}
use Rattle.rrs_elf.specs.declared.code_units.CodeUnit.{CodeUnit}
use Rattle.rrs_elf.specs.Executables.{bytes_of}
use Rattle.rrs_trace.specs.declared.retired.Retired.{Retired}
use Rattle.rrs_fast.specs.declared.serving.Ending.{Ending}
use Rattle.rrs_linux.specs.declared.Process.{Process}
use Rattle.rrs_linux.specs.declared.host_writer.HostWriter.{HostWriter}
use Rattle.rrs_linux.specs.declared.host_side.HostSide.{HostSide}
use Rattle.rrs_reports.specs.CommitLogs.{committed}
use Rattle.rrs_board.specs.declared.board.Board.{Board}
use Rattle.rrs_board.specs.declared.effects.BoardEvent.{BoardEvent}
use Rattle.rrs_board.specs.declared.runs.RecordedStep.{RecordedStep}
use Rattle.rrs_board.specs.Inputs.{Listener}
use Rattle.rrs_words.specs.declared.csrs.HartProfile.{HartProfile}
use Rattle.rrs_reports.specs.Records.{RunsWithRecords}
use Rattle.rrs_reports.specs.BoardRecords.{BoardWithRecords}
use Rattle.rrs_reports.specs.declared.coverage.Coverage.{Coverage}

-- whether one of so many units from the base on has this address
abbrev pub has_unit : CodeUnit → ℕ → ℕ → ℕ → Bool
has_unit unit base units address =
    cond (nat_lt address base) false
    (cond ((address - base) % bytes_of unit == 0) (nat_lt ((address - base) / bytes_of unit) units)
    false)

-- the word at an address, if it is aligned and mapped
abbrev pub word_of : ByteMap → ℕ → Option ℕ
word_of bytes a = if a % 4 == 0 then little_endian bytes a 4 else None

-- whether the record is of a step: a word was committed
abbrev pub is_step : Retired → Bool
is_step r = of_word (committed r)
  where
    of_word : Option ℕ → Bool
    of_word None = false
    of_word (Some word) = true

-- whether it is of a step whose pc this address is
abbrev pub begins_at : ℕ → Retired → Bool
begins_at address r = cond (r.pc_rdata == address) (is_step r) false

-- whether it is of a step whose pc no unit has
abbrev pub begins_elsewhere : CodeUnit → ℕ → ℕ → Retired → Bool
begins_elsewhere unit base units r =
    cond (has_unit unit base units r.pc_rdata) false (is_step r)

-- a count, and one more where it is of what is counted; it stays at the highest number of 64 bits
abbrev pub capped : ℕ → ℕ
capped count = min count (2 ^ 64 - 1)

abbrev pub counted : ℕ → Bool → ℕ
counted count is = cond is (capped (count + 1)) count

-- What a record makes of the counts: that of the unit at the pc of a step goes up by one, and if no
-- unit is there that of the steps elsewhere. The others stay.
pub record Counts (old : Coverage) (r : Retired) (new : Coverage) : Type 0 where
  pub base_kept : new.base ≡ old.base
  pub unit_kept : new.unit ≡ old.unit
  pub units_kept : length new.counts.items ≡ length old.counts.items
  pub at : (place : ℕ) → place < length old.counts.items
      → get_or new.counts.items place 0
      ≡ counted (get_or old.counts.items place 0)
      (begins_at (old.base + bytes_of old.unit * place) r)
  pub elsewhere : new.elsewhere
      ≡ counted old.elsewhere (begins_elsewhere old.unit old.base (length old.counts.items) r)

-- The counts are those of the steps that these records are of.
pub record Covers (records : List Retired) (c : Coverage) : Type 0 where
  pub at : (place : ℕ) → place < length c.counts.items
      → get_or c.counts.items place 0
      ≡ capped (count_by (begins_at (c.base + bytes_of c.unit * place)) records)
  pub elsewhere : c.elsewhere
      ≡ capped (count_by (begins_elsewhere c.unit c.base (length c.counts.items)) records)

-- A run is one of `execute_process`, with so many steps, and the counts are those of its steps.
pub record CoversProcess {R W E : Type 0} (p : HartProfile) (remaining : R → Option (List ℕ))
    (contents : W → Option (List ℕ)) (errors_of : E → Option (List ℕ))
    (file : List ℕ) (arguments variables : List (List ℕ)) (wanted limit : ℕ)
    (old new : Process R (HostWriter W) (HostWriter E) HostSide)
    (steps pc : ℕ) (ending : Ending) (c : Coverage) : Type 0 where
  pub records : List Retired
  pub runs : RunsWithRecords p remaining contents errors_of file arguments variables wanted limit
      old new steps pc ending records
  pub covers : Covers records c

-- A session at a terminal that ended so, and the counts are those of its steps.
pub record CoversBoard {I : Type 0} (says : Listener I) (remaining : I → Option (List ℕ))
    (polled : Bool) (limit : ℕ) (start : Board) (input rest : I) (before after : Option (List ℕ))
    (steps : ℕ) (event : Option BoardEvent) (new : Board) (c : Coverage) : Type 0 where
  pub records : List RecordedStep
  pub runs : BoardWithRecords says remaining polled limit start input rest before after
      steps event new records
  pub covers : Covers (map (λ step. step.retired.retired) records) c
