-- What a packet may change, by its letter (gdb's manual, "Remote Serial Protocol", "Packets"). Most
-- packets ask, and change nothing of the program.
use Rattle.std.specs.Prelude.{◌≡◌, ◌≢◌, ◌⊎◌, ℕ, zero, suc, ◌+◌, ◌-◌, ◌*◌, ◌%◌, ◌^◌, ◌<◌, ◌≤◌, List, [], ◌∷◌, ◌++◌, Contains, count_by, map, string_bytes, Bool, true, false, drop, take, length, slice_index, nat_lt, if◌then◌else◌, Option, Some, None, Ok, Err, IsOk, codes}
use Rattle.std.specs.Fmt.{digits}
use Rattle.std.specs.Io.KnownBytes.{Appends}
use Rattle.hex.specs.Hex.{decode_of, decode_sized}
use Rattle.rrs_lib.specs.Bytes.{ByteMap}
use Rattle.rrs_lib.specs.Loading.{Loaded}
use Rattle.rrs_lib.specs.declared.instruction_executor.InstructionException.{InstructionException}
use Rattle.rrs_lib.specs.declared.instruction_executor.InstructionException.TheVariants.{IllegalInstruction, Breakpoint, AlignmentFault, FetchError, LoadAccessFault, StoreAccessFault, EnvironmentCall}
use Rattle.rrs_lib.specs.Accesses.{Access}
use Rattle.rrs_lib.specs.Machine.{State, reg, with_pc}
use Rattle.rrs_lib.specs.Steps.{StepAnswer}
use Rattle.rrs_linux.specs.Recording.{Recording, Records}
use Rattle.rrs_history.specs.Calls.{RemembersCall, ServesCall}
use Rattle.rrs_words.specs.declared.csrs.HartProfile.{HartProfile}
use Rattle.rrs_hart.specs.Harts.{hart_with}
use Rattle.rrs_gdb.specs.Harts.{may_differ, HartTouchesNone, HartTouchesOne, HartStepped}
use Rattle.rrs_history.specs.declared.change.Change.{Change}
use Rattle.rrs_gdb.specs.declared.breaks.Break.{Break}
use Rattle.rrs_gdb.specs.declared.breaks.Break.TheVariants as Place
use Rattle.rrs_gdb.specs.declared.breaks.Breaks.{Breaks}
use Rattle.rrs_gdb.specs.declared.breaks.Watch.{Watch}
use Rattle.rrs_gdb.specs.declared.breaks.WatchKind.{WatchKind}
use Rattle.rrs_gdb.specs.declared.breaks.WatchKind.TheVariants as Kind
use Rattle.rrs_gdb.specs.declared.forward.ForwardReason.{ForwardReason}
use Rattle.rrs_gdb.specs.declared.forward.ForwardReason.TheVariants.{AtStop, Touches, Fault}
use Rattle.rrs_gdb.specs.declared.forward.ForwardReason.TheVariants as Forward
use Rattle.rrs_gdb.specs.declared.link.Link.{Link}
use Rattle.rrs_gdb.specs.declared.queries.Setting.{Setting}
use Rattle.rrs_gdb.specs.declared.queries.Setting.TheVariants.{Steps, Limit, HistoryRoom, StopAtExit}
use Rattle.rrs_gdb.specs.declared.session.Going.{Going}
use Rattle.rrs_gdb.specs.declared.session.Going.TheVariants.{Step, Proceed, Killed}
use Rattle.rrs_gdb.specs.declared.session.Next.{Next}
use Rattle.rrs_gdb.specs.declared.session.Next.TheVariants.{Reply, ReplyAndEnd, End, Restart}
use Rattle.rrs_gdb.specs.declared.session.SessionEnd.{SessionEnd}
use Rattle.rrs_gdb.specs.declared.session.SessionEnd.TheVariants as Ending
use Rattle.rrs_gdb.specs.declared.state.SessionState.{SessionState}
use Rattle.rrs_gdb.specs.declared.state.CallMark.{CallMark}
use Rattle.rrs_gdb.specs.declared.state.Caught.{Caught}
use Rattle.rrs_gdb.specs.declared.state.Stop.{Stop}
use Rattle.rrs_gdb.specs.declared.state.Stop.TheVariants.{Signal, Touched, AtBegin, Entry, Return, Exited}
use Rattle.rrs_gdb.specs.declared.state.Stop.TheVariants as stop
use Rattle.rrs_history.specs.declared.history.History.{History}
use Rattle.rrs_history.specs.Histories.{changes, room, past}
use Rattle.rrs_gdb.specs.declared.back.BackEnd.{BackEnd}
use Rattle.rrs_gdb.specs.declared.back.BackEnd.TheVariants as Back
use Rattle.rrs_gdb.specs.Breaks.{GoesForward, GoesBack, KeepsSteps, WithBreak, WithoutBreak}
use Rattle.rrs_gdb.specs.Packets.{AreNumbers, AreTexts, IsDecimal, IsNumber, decimal, number, before, behind, IsPlace, address_in, length_in, packet}
use Rattle.rrs_gdb.specs.Shown.{Prints, Turns, register, register_text, registers_text, text_of, with_register, word_at, HasBytes, stop_text}

-- the letter of a packet: the first byte of its payload
abbrev pub letter : List ℕ → ℕ
letter payload = slice_index payload 0

-- none of `G` and `P`, which change registers, and of `M` and `X`, which change memory
abbrev pub ChangesNone : List ℕ → Type 0
ChangesNone payload =
    (letter payload ≢ 71) × (letter payload ≢ 80) × (letter payload ≢ 77) × (letter payload ≢ 88)

-- none of `c`, `C`, `s`, `S`, `v` and `b`, by which the program goes on or back
abbrev pub RunsNone : List ℕ → Type 0
RunsNone payload =
    (letter payload ≢ 99) × (letter payload ≢ 67) × (letter payload ≢ 115)
    × (letter payload ≢ 83) × (letter payload ≢ 118) × (letter payload ≢ 98)

-- none of `D`, `k` and `R`, which end the session, and of `v`, by some of which it ends
abbrev pub EndsNone : List ℕ → Type 0
EndsNone payload =
    (letter payload ≢ 68) × (letter payload ≢ 107) × (letter payload ≢ 82)
    × (letter payload ≢ 118)

-- What follows a packet: `D` ends the session once it is answered, `k` ends it at once, and by `R`
-- the program begins again.
pub record EndsBy (payload : List ℕ) (next : Next) : Type 0 where
  pub detaches : letter payload ≡ 68 → next ≡ ReplyAndEnd
  pub kills : payload ≡ codes "k" → next ≡ End
  pub restarts : letter payload ≡ 82 → next ≡ Restart

-- how the session ends after a packet, if it does
abbrev pub end_behind : Next → Option SessionEnd
end_behind Reply = None
end_behind ReplyAndEnd = Some Ending.Ended
end_behind End = Some Ending.Ended
end_behind Restart = Some Ending.Restart

-- `G` or `P`
abbrev pub ChangesRegister : List ℕ → Type 0
ChangesRegister payload = (letter payload ≡ 71) ⊎ (letter payload ≡ 80)

-- `M` or `X`
abbrev pub ChangesMemory : List ℕ → Type 0
ChangesMemory payload = (letter payload ≡ 77) ⊎ (letter payload ≡ 88)

-- neither `Z` nor `z`, which set and remove breakpoints and watchpoints
abbrev pub BreaksNone : List ℕ → Type 0
BreaksNone payload = (letter payload ≢ 90) × (letter payload ≢ 122)

-- no byte and no permission is changed, nor the register that was written last
pub record MemoryKept (s t : State) : Type 0 where
  pub last_kept : t.last ≡ s.last
  pub bytes_kept : t.bytes ≡ s.bytes
  pub writable_kept : t.writable ≡ s.writable

-- no register is changed, nor the pc
pub record RegistersKept (s t : State) : Type 0 where
  pub registers_kept : t.registers ≡ s.registers
  pub pc_kept : t.pc ≡ s.pc
  pub last_kept : t.last ≡ s.last
  pub writable_kept : t.writable ≡ s.writable

-- the breakpoints and the watchpoints are as they were
pub record BreaksKept (old new : SessionState) : Type 0 where
  pub stops_kept : new.breaks.stops.items ≡ old.breaks.stops.items
  pub watches_kept : new.breaks.watches.items ≡ old.breaks.watches.items

-- the settings, the history and what is reserved are as they were
pub record SettingsKept (old new : SessionState) : Type 0 where
  pub settings_kept : new.settings ≡ old.settings
  pub history_kept : new.history ≡ old.history
  pub reserved_kept : new.reservation ≡ old.reservation

-- the breakpoints, the watchpoints, the settings, which calls are caught, and the profile of the
-- hart are as they were
pub record PlacesKept (old new : SessionState) : Type 0 where
  pub stops_kept : new.breaks.stops.items ≡ old.breaks.stops.items
  pub watches_kept : new.breaks.watches.items ≡ old.breaks.watches.items
  pub settings_kept : new.settings ≡ old.settings
  pub caught_kept : new.caught ≡ old.caught
  pub profile_kept : new.profile ≡ old.profile

-- the breakpoints, the watchpoints, the settings, the history and what is reserved are as they were
pub record SessionKept (old new : SessionState) : Type 0 where
  pub stops_kept : new.breaks.stops.items ≡ old.breaks.stops.items
  pub watches_kept : new.breaks.watches.items ≡ old.breaks.watches.items
  pub settings_kept : new.settings ≡ old.settings
  pub history_kept : new.history ≡ old.history
  pub reserved_kept : new.reservation ≡ old.reservation

-- a program stopped because it exited, or because a signal killed it
abbrev pub is_end : Stop → Bool
is_end (Signal signal) = false
is_end (Touched watch) = false
is_end AtBegin = false
is_end (Entry number) = false
is_end (Return number) = false
is_end (Exited status) = true
is_end (stop.Killed signal) = true

-- the program of a session has ended
abbrev pub has_ended : SessionState → Bool
has_ended session = is_end session.stop

-- what was appended is an error: it begins with `E`
abbrev pub IsError : List ℕ → List ℕ → Type 0
IsError old new = (rest : List ℕ) × (new ≡ old ++ (codes "E" ++ rest))

-- after a change the history is empty; or nothing is changed
abbrev pub ForgetsOrStays : State → State → SessionState → SessionState → Type 0
ForgetsOrStays s t old new = (changes new.history ≡ []) ⊎ ((t ≡ s) × SessionKept old new)

-- ---- what the text of a packet means

-- `p n`: the register of this number is shown. 32 is the pc.
pub record ShowsRegister (digits : List ℕ) (s : State) (old new : List ℕ) : Type 0 where
  pub shown : IsNumber digits → number digits < 33 → new ≡ old ++ register_text s (number digits)
  pub refused : ¬ (IsNumber digits × (number digits < 33)) → IsError old new

-- the number of a register that can be changed: x1 to x31, and 32, the pc
abbrev pub IsChangeable : List ℕ → Type 0
IsChangeable digits = IsNumber digits × (1 ≤ number digits) × (number digits ≤ 32)

-- `P n=r`: the register of this number is changed to the word that has these four bytes, the lowest
-- first.
pub record SetsRegister (text : List ℕ) (s t : State) (old new : List ℕ) : Type 0 where
  pub set : (bytes : List ℕ) → IsChangeable (before 61 text)
      → decode_sized (behind 61 text) 4 ≡ Ok bytes
      → t ≡ with_register s (number (before 61 text)) (word_at bytes 0)
  pub refused : ¬ (IsChangeable (before 61 text) × IsOk (decode_sized (behind 61 text) 4))
      → IsError old new

-- x1 to x31, and the pc, are the words of these bytes, the lowest byte of each first. The first
-- word stands for x0, and counts for nothing.
abbrev pub HasRegisters : List ℕ → State → Type 0
HasRegisters bytes s = (r : ℕ) → 1 ≤ r → r ≤ 32 → register s r ≡ word_at bytes (4 * r)

-- `G r..`: all registers are changed to these 132 bytes, and nothing else changes.
pub record SetsRegisters (digits : List ℕ) (s t : State) (old new : List ℕ) : Type 0 where
  pub set : (bytes : List ℕ) → decode_of digits ≡ Ok bytes → length bytes ≡ 132
      → HasRegisters bytes t × MemoryKept s t
  pub refused : ((bytes : List ℕ) → decode_of digits ≡ Ok bytes → length bytes ≢ 132)
      → IsError old new

-- So many bytes from an address on are shown: up to the first that is not mapped, or as many as an
-- answer has room for.
pub record ShowsBytes (bytes : ByteMap) (address count : ℕ) (old new : List ℕ) : Type 0 where
  pub values : List ℕ
  pub are_there : HasBytes bytes address values
  pub within : length values ≤ count
  pub ended : length values < count → length values < 8176 → address + length values < 2 ^ 32
      → bytes (address + length values) ≡ None
  pub shown : 1 ≤ length values → new ≡ old ++ text_of values
  pub none : values ≡ [] → 1 ≤ count → IsError old new

-- `m addr,length`
pub record ShowsMemory (text : List ℕ) (s : State) (old new : List ℕ) : Type 0 where
  pub shown : IsPlace text → ShowsBytes s.bytes (address_in text) (length_in text) old new
  pub refused : ¬ IsPlace text → IsError old new

-- The bytes from an address on are changed to these, or none is, and then one is not writable or
-- after the last address.
pub data SetsBytes (address : ℕ) (values : List ℕ) (s t : State) (old new : List ℕ) : Type 0 where
  Changed : Loaded s.bytes t.bytes s.writable address values → SetsBytes address values s t old new
  Refused : IsError old new
      → (address + length values ≤ 2 ^ 32
      → (i : ℕ) × (i < length values) × (s.writable (address + i) ≡ false))
      → SetsBytes address values s t old new

-- `M addr,length:digits`, and `X addr,length:bytes`: as many values as the length says are to stand
-- after the colon. Of none nothing is changed.
pub record SetsMemory (values : List ℕ) (text : List ℕ) (s t : State) (old new : List ℕ)
    : Type 0 where
  pub set : IsPlace (before 58 text) → length values ≡ length_in (before 58 text)
      → 1 ≤ length values → SetsBytes (address_in (before 58 text)) values s t old new
  pub none : values ≡ [] → t ≡ s
  pub refused : ¬ (IsPlace (before 58 text) × (length values ≡ length_in (before 58 text)))
      → IsError old new

-- the type of a watchpoint
abbrev pub watch_type : WatchKind → List ℕ
watch_type Kind.Write = codes "2"
watch_type Kind.Read = codes "3"
watch_type Kind.Access = codes "4"

-- what stands after `type,`, and before the conditions after a semicolon, which are not looked at
abbrev pub place_in : List ℕ → List ℕ
place_in text = before 59 (behind 44 text)

-- `type,addr,kind`: 0 and 1 are breakpoints. Of a watchpoint the kind is how many addresses there
-- are.
abbrev pub IsBreak : List ℕ → Break → Type 0
IsBreak text (Place.Stop address) =
    ((before 44 text ≡ codes "0") ⊎ (before 44 text ≡ codes "1"))
    × IsPlace (place_in text) × (address ≡ address_in (place_in text))
IsBreak text (Place.Watch watch) =
    (before 44 text ≡ watch_type watch.kind) × IsPlace (place_in text)
    × (watch.address ≡ address_in (place_in text)) × (watch.length ≡ length_in (place_in text))

-- `Z`: the breakpoint or the watchpoint is set. Without memory for it an error is answered.
pub record SetsBreak (text : List ℕ) (b b' : Breaks) (old new : List ℕ) : Type 0 where
  pub set : (place : Break) → IsBreak text place
      → IsError old new ⊎ (WithBreak place b b' × (new ≡ old ++ codes "OK"))
  pub refused : ((place : Break) → ¬ IsBreak text place) → IsError old new

-- `z`: it is removed.
pub record RemovesBreak (text : List ℕ) (b b' : Breaks) (old new : List ℕ) : Type 0 where
  pub removed : (place : Break) → IsBreak text place
      → WithoutBreak place b b' × (new ≡ old ++ codes "OK")
  pub refused : ((place : Break) → ¬ IsBreak text place) → IsError old new

-- ---- questions

-- `qXfer:..:offset,length`: so many bytes of an object from an offset on, after `m` where more
-- follow, and after `l` where none do
abbrev pub part_text : List ℕ → ℕ → ℕ → List ℕ
part_text object offset count =
    (if nat_lt (offset + count) (length object) then codes "m" else codes "l")
    ++ take count (drop offset object)

pub record ShowsPart (object place old new : List ℕ) : Type 0 where
  pub shown : IsPlace place → new ≡ old ++ part_text object (address_in place) (length_in place)
  pub refused : ¬ IsPlace place → IsError old new

-- What is told of the session (gdb's manual, "General Query Packets" and "Library List Format"):
-- the one thread, 1, whether the program ran before gdb came, and parts of the target's description
-- and of the program's path.
pub record Tells (target path : List ℕ) (is_extended : Bool) (payload old new : List ℕ)
    : Type 0 where
  pub thread : before 58 payload ≡ codes "qC" → new ≡ old ++ codes "QC1"
  pub threads : before 58 payload ≡ codes "qfThreadInfo" → new ≡ old ++ codes "m1"
  pub no_more : before 58 payload ≡ codes "qsThreadInfo" → new ≡ old ++ codes "l"
  pub attached : before 58 payload ≡ codes "qAttached"
      → new ≡ old ++ (if is_extended then codes "0" else codes "1")
  pub target_part : (place : List ℕ) → payload ≡ codes "qXfer:features:read:target.xml:" ++ place
      → ShowsPart target place old new
  pub path_part : (rest : List ℕ) → payload ≡ codes "qXfer:exec-file:read:" ++ rest
      → ShowsPart path (behind 58 rest) old new

-- Packets that begin with `v` (gdb's manual, "Packets": vCont?, vKill and vRun): which actions there
-- are; the program is killed, which ends the session unless it goes on after the program's end; and
-- the program begins again, with the arguments after its name, which is not used.
pub record NamedBy (payload : List ℕ) (next : Next) (s t : SessionState) (old new : List ℕ)
    : Type 0 where
  pub offers : payload ≡ codes "vCont?" → (new ≡ old ++ codes "vCont;c;C;s;S") × (next ≡ Reply)
  pub kills : (rest : List ℕ) → payload ≡ codes "vKill" ++ rest → (new ≡ old ++ codes "OK")
      × (next ≡ (if s.is_extended then Reply else ReplyAndEnd))
  pub begins : (rest : List ℕ) (texts : List (List ℕ)) → payload ≡ codes "vRun;" ++ rest
      → AreTexts texts (behind 59 rest) → (next ≡ Restart)
      × AreTexts (map string_bytes t.arguments.items) (behind 59 rest)
      × (t.has_arguments ≡ true) × (t.owes_stop ≡ true)
  pub refused : (rest : List ℕ) → payload ≡ codes "vRun;" ++ rest
      → ((texts : List (List ℕ)) → ¬ AreTexts texts (behind 59 rest))
      → IsError old new × (next ≡ Reply)

-- ---- `monitor`, a command that stands in digits after `qRcmd,`: a word, a blank and an argument

abbrev pub word_of : Setting → List ℕ
word_of Steps = codes "steps"
word_of Limit = codes "limit"
word_of HistoryRoom = codes "history"
word_of StopAtExit = codes "stop-at-exit"

abbrev pub on_or_off : Bool → List ℕ
on_or_off true = codes "on"
on_or_off false = codes "off"

-- how many steps and calls can be taken back: those whose first change is kept
abbrev pub steps_kept : History → ℕ
steps_kept h = count_by (λ (c : Change). c.starts) (changes h)

-- how a setting stands: of the steps, how many were made, and how many can be taken back
abbrev pub value_text : SessionState → Setting → List ℕ
value_text s Steps =
    digits 10 false s.steps ++ codes ", of which " ++ digits 10 false (steps_kept s.history)
    ++ codes " can be taken back"
value_text s Limit = digits 10 false s.settings.limit
value_text s HistoryRoom = digits 10 false s.settings.history
value_text s StopAtExit = on_or_off s.settings.stops_at_exit

-- the line that tells it, which is answered in digits
abbrev pub setting_line : List ℕ → List ℕ → List ℕ
setting_line word value = word ++ (codes ": " ++ (value ++ codes "\n"))

-- what a setting can be set to
abbrev pub Accepts : Setting → List ℕ → Type 0
Accepts Steps argument = ⊥
Accepts Limit argument = IsDecimal argument
Accepts HistoryRoom argument = IsDecimal argument
Accepts StopAtExit argument = (argument ≡ codes "on") ⊎ (argument ≡ codes "off")

-- It is set: the most steps of a `continue`; for how many changes the history has room, of which
-- the latest stay, with what the environment had before each call; or whether the program stops
-- before it exits.
abbrev pub Sets : Setting → List ℕ → SessionState → SessionState → Type 0
Sets Steps argument s t = ⊥
Sets Limit argument s t = t ≡ record s { settings = record s.settings { limit = decimal argument } }
Sets HistoryRoom argument s t =
    (t.settings ≡ record s.settings { history = decimal argument })
    × (changes t.history ≡ take (decimal argument) (changes s.history))
    × (t.calls.items ≡ take (decimal argument) s.calls.items)
    × (room t.history ≡ decimal argument)
Sets StopAtExit argument s t =
    (is_on : Bool) × (argument ≡ on_or_off is_on)
    × (t ≡ record s { settings = record s.settings { stops_at_exit = is_on } })

-- It is set and then shown. Where there is no memory for a history, nothing is set, and gdb is told
-- so.
abbrev pub SetsOrTells : Setting → List ℕ → SessionState → SessionState → List ℕ → List ℕ → Type 0
SetsOrTells setting argument s t old new =
    (Sets setting argument s t
    × (new ≡ old ++ text_of (setting_line (word_of setting) (value_text t setting))))
    ⊎ ((setting ≡ HistoryRoom) × (t ≡ s)
    × (new ≡ old ++ text_of (codes "history: out of memory\n")))

-- what `help` tells, and any other command that is none of these
abbrev pub help_text : List ℕ
help_text =
    codes "monitor steps: how many steps were made, and can be taken back\n"
    ++ codes "monitor limit [N]: the most steps of a continue\n"
    ++ codes "monitor history [N]: the most steps that are kept, of which the latest stay\n"
    ++ codes "monitor stop-at-exit [on|off]: whether the program stops once where it is to exit\n"
    ++ codes "catch syscall: where gdb does not have it, break at an ecall, "
    ++ codes "as 'break *0x10204 if $a7 == 64'\n"

-- A setting is shown, or set and then shown. By another word, or an argument that can't be, gdb is
-- told what there is.
pub record Monitors (word argument : List ℕ) (s t : SessionState) (old new : List ℕ)
    : Type 0 where
  pub shown : (setting : Setting) → word ≡ word_of setting → argument ≡ []
      → (t ≡ s) × (new ≡ old ++ text_of (setting_line word (value_text s setting)))
  pub set : (setting : Setting) → word ≡ word_of setting → Accepts setting argument
      → SetsOrTells setting argument s t old new
  pub kept : ((setting : Setting) → word ≡ word_of setting → ¬ Accepts setting argument) → t ≡ s
  pub helped : ((setting : Setting) → word ≢ word_of setting) → new ≡ old ++ text_of help_text
  pub refused : (setting : Setting) → word ≡ word_of setting → argument ≢ []
      → ¬ Accepts setting argument → new ≡ old ++ text_of help_text

-- `QCatchSyscalls:0` has no call caught, `1` all, and `1;n;n` those of these numbers.
pub data Catches (text : List ℕ) (caught : Caught) : Type 0 where
  CatchesNone : before 59 text ≡ codes "0" → behind 59 text ≡ [] → caught.are_all ≡ false
      → caught.numbers.items ≡ [] → Catches text caught
  CatchesSome : before 59 text ≡ codes "1" → AreNumbers caught.numbers.items (behind 59 text)
      → (behind 59 text ≡ [] → caught.are_all ≡ true)
      → (behind 59 text ≢ [] → caught.are_all ≡ false) → Catches text caught

-- the calls that a text names are caught, or it names none, and nothing changes
abbrev pub CatchesOrStays : List ℕ → SessionState → SessionState → List ℕ → List ℕ → Type 0
CatchesOrStays asked s t old new =
    (Catches asked t.caught × ¬ IsError old new)
    ⊎ (((caught : Caught) → ¬ Catches asked caught) × (t ≡ s) × IsError old new)

-- Packets that are about the session alone (gdb's manual, "Packets": !, D, H and T, and "General
-- Query Packets": QStartNoAckMode and QCatchSyscalls): a thread is taken, and gdb lets go; by `!`
-- the session goes on after the program's end; packets are no longer acknowledged; and calls are
-- caught.
pub record Manages (payload : List ℕ) (s t : SessionState) (old new : List ℕ)
    (acknowledges acknowledges' : Bool) : Type 0 where
  pub accepts : (letter payload ≡ 72) ⊎ (letter payload ≡ 84) ⊎ (letter payload ≡ 68)
      → new ≡ old ++ codes "OK"
  pub extends : payload ≡ codes "!" → (new ≡ old ++ codes "OK") × (t.is_extended ≡ true)
  pub silences : payload ≡ codes "QStartNoAckMode"
      → (new ≡ old ++ codes "OK") × (acknowledges' ≡ false)
  pub acknowledged : payload ≢ codes "QStartNoAckMode" → acknowledges' ≡ acknowledges
  pub catches : (asked : List ℕ) → payload ≡ codes "QCatchSyscalls:" ++ asked
      → CatchesOrStays asked s t old new

-- ---- where the program stops

-- what gdb asked for: breakpoints, watchpoints, calls that are caught, all or those of these
-- numbers, and whether the program stops before it exits; and the profile of the hart
pub record Asked : Type 0 where
  pub stops : List ℕ
  pub watches : List Watch
  pub all_calls : Bool
  pub calls : List ℕ
  pub stops_at_exit : Bool
  pub profile : HartProfile

abbrev pub asked_by : SessionState → Asked
asked_by session = record {
  stops = session.breaks.stops.items;
  watches = session.breaks.watches.items;
  all_calls = session.caught.are_all;
  calls = session.caught.numbers.items;
  stops_at_exit = session.settings.stops_at_exit;
  profile = session.profile;
}

-- What is around the machine: the environment of the program, the address that it has reserved,
-- the steps that can be taken back, whether the call at the pc, or the exit there, was told before
-- it is made, and where the program stopped last.
pub record Around : Type 0 where
  pub environment : Recording
  pub reserved : Option ℕ
  pub history : History
  pub entered : Bool
  pub told_exit : Bool
  pub stop : Stop

abbrev pub around : SessionState → Recording → Around
around session environment = record {
  environment = environment;
  reserved = session.reservation;
  history = session.history;
  entered = session.has_entered;
  told_exit = session.has_told_exit;
  stop = session.stop;
}

abbrev pub stopped_at : Around → Stop → Around
stopped_at a at = record a { stop = at }

-- no step can be taken back, and nothing was told of the call at the pc
abbrev pub emptied : History → History
emptied h = record { ring = record { items = []; capacity = room h } }

abbrev pub forgotten : Around → Around
forgotten a = record a { history = emptied a.history; entered = false; told_exit = false }

-- gdb's number of the signal of an exception: SIGILL is 4, SIGTRAP 5, SIGBUS 10, SIGSEGV 11 and
-- SIGSYS 12
abbrev pub signal_of : InstructionException → ℕ
signal_of (IllegalInstruction pc word) = 4
signal_of (Breakpoint pc) = 5
signal_of (AlignmentFault a) = 10
signal_of (FetchError a) = 11
signal_of (LoadAccessFault a) = 11
signal_of (StoreAccessFault a) = 11
signal_of (EnvironmentCall pc) = 12

-- where a run stops; at its limit it does so as it was asked to
abbrev pub stop_of : Stop → ForwardReason → Stop
stop_of at_limit AtStop = Signal 5
stop_of at_limit (Touches watch) = Touched watch
stop_of at_limit Forward.Limit = at_limit
stop_of at_limit (Fault fault) = Signal (signal_of fault)

-- an exception is a call
abbrev pub is_call : InstructionException → Bool
is_call (EnvironmentCall pc) = true
is_call (IllegalInstruction pc word) = false
is_call (Breakpoint pc) = false
is_call (AlignmentFault a) = false
is_call (FetchError a) = false
is_call (LoadAccessFault a) = false
is_call (StoreAccessFault a) = false

-- a run ended with an exception
abbrev pub ends_by_fault : ForwardReason → Bool
ends_by_fault AtStop = false
ends_by_fault (Touches watch) = false
ends_by_fault Forward.Limit = false
ends_by_fault (Fault fault) = true

-- ---- calls

-- Of the environment of the program the output that was recorded is taken away, and nothing else
-- changes.
pub record OutputTaken (e e' : Recording) : Type 0 where
  pub input_kept : e'.input ≡ e.input
  pub heap_kept : e'.heap ≡ e.heap
  pub unserved_kept : e'.unserved ≡ e.unserved
  pub random_kept : e'.random ≡ e.random
  pub held_kept : e'.held ≡ e.held
  pub output_taken : e'.output.items ≡ []
  pub errors_taken : e'.errors.items ≡ []

-- the number of the call at the pc
abbrev pub call_number : State → ℕ
call_number s = reg s 17

abbrev pub IsCaught : Asked → ℕ → Type 0
IsCaught asked number = (asked.all_calls ≡ true) ⊎ Contains asked.calls number

-- `exit` and `exit_group`
abbrev pub IsExit : ℕ → Type 0
IsExit number = (number ≡ 93) ⊎ (number ≡ 94)

-- The program stops before the call of this number, once: where it is caught, or before the exit.
pub data StopsBefore (asked : Asked) (a : Around) (number : ℕ) (b : Around) : Type 0 where
  AtEntry : IsCaught asked number → a.entered ≡ false
      → b ≡ record a { entered = true; stop = Entry number } → StopsBefore asked a number b
  AtExit : IsExit number → asked.stops_at_exit ≡ true → a.told_exit ≡ false
      → b ≡ record a { told_exit = true; stop = Signal 5 } → StopsBefore asked a number b

-- it does not
pub record PassesBefore (asked : Asked) (a : Around) (number : ℕ) : Type 0 where
  pub entered : IsCaught asked number → a.entered ≡ true
  pub told : IsExit number → asked.stops_at_exit ≡ true → a.told_exit ≡ true

-- why the program stops after a call of this number that leads to this pc
pub data StopsBehind (entered : Bool) (stops : List ℕ) (number pc : ℕ) (at : Stop) : Type 0 where
  -- the call was told before it was made
  AtReturn : entered ≡ true → at ≡ Return number → StopsBehind entered stops number pc at
  AtBreakpoint : entered ≡ false → Contains stops pc → at ≡ Signal 5
      → StopsBehind entered stops number pc at

-- From m a call is served, after which the program goes on, or has ended with a status. The history
-- keeps it, and the output that was recorded is taken away.
pub record CallServed (a : Around) (m : State) (end : Option ℕ) (b : Around) (t : State)
    : Type 0 where
  pub after : Recording
  pub accesses : List Access
  pub served : ServesCall Records a.environment m end m.pc after t accesses
  pub output_taken : OutputTaken after b.environment
  pub reserved_kept : b.reserved ≡ a.reserved
  pub remembered : RemembersCall true a.history m b.history t (length accesses)

-- a stop after a call that was served
abbrev pub IsAfterCall : Stop → Type 0
IsAfterCall (Exited status) = Unit {0}
IsAfterCall (Return number) = Unit {0}
IsAfterCall _ = ⊥

-- A call is served, and what it printed is sent, output and then errors. Where steps were taken
-- back, fewer bytes were made than sent, and those that gdb knows are not sent again.
pub record PrintsCall {R W : Type 0} (contents : W → Option (List ℕ)) (made sent : ℕ)
    (e : Recording) (m t : State) (old new : Link R W) : Type 0 where
  pub end : Option ℕ
  pub after : Recording
  pub accesses : List Access
  pub served : ServesCall Records e m end m.pc after t accesses
  pub prints : made + length after.output.items + length after.errors.items < 2 ^ 64
      → Prints contents old new (drop (sent - made) (after.output.items ++ after.errors.items))

-- a call is served, and the program goes on: it is at no stop, and was not told of the call before
pub record CallMade (asked : Asked) (a : Around) (m : State) (b : Around) (t : State)
    : Type 0 where
  pub passes : PassesBefore asked a (call_number m)
  pub served : CallServed a m None b t
  pub not_entered : a.entered ≡ false
  pub no_stop : ¬ Contains asked.stops t.pc
  pub entered_kept : b.entered ≡ false
  pub told_kept : b.told_exit ≡ a.told_exit

-- the program stops before a call, or after it
pub data CallStops (asked : Asked) (a : Around) (m : State) (b : Around) (t : State)
    : Type 0 where
  -- nothing is served
  Before : StopsBefore asked a (call_number m) b → t ≡ m → CallStops asked a m b t
  -- the call ends the program
  Ends : (status : ℕ) → PassesBefore asked a (call_number m) → CallServed a m (Some status) b t
      → b.stop ≡ Exited (status % 256) → CallStops asked a m b t
  -- the call is served, and the program goes on
  Behind : PassesBefore asked a (call_number m) → CallServed a m None b t
      → StopsBehind a.entered asked.stops (call_number m) t.pc b.stop → CallStops asked a m b t

-- ---- steps of the hart in whose place the kit's raises an exception

-- From m a step of the hart is made. It touches no watchpoint, and nothing is told of the call at
-- the pc then.
pub record SteppedOn (asked : Asked) (a : Around) (m : State) (b : Around) (t : State) : Type 0 where
  pub touches_none : HartTouchesNone asked.watches asked.profile (hart_with m a.reserved)
  pub stepped : HartStepped asked.profile a.reserved a.history m (Ok tt) b.reserved b.history t
  pub environment_kept : b.environment ≡ a.environment
  pub not_entered : b.entered ≡ false
  pub not_told : b.told_exit ≡ false

-- The step of the hart from m raises this exception. It touches no watchpoint.
pub record Raises (asked : Asked) (left : InstructionException) (a : Around) (m : State)
    (b : Around) (t : State) : Type 0 where
  pub touches_none : HartTouchesNone asked.watches asked.profile (hart_with m a.reserved)
  pub stepped : HartStepped asked.profile a.reserved a.history m (Err left) b.reserved b.history t
  pub environment_kept : b.environment ≡ a.environment
  pub entered_kept : b.entered ≡ a.entered
  pub told_kept : b.told_exit ≡ a.told_exit

-- the program stops at an exception of the kit's step that is no call, or behind its instruction
pub data FaultStops (asked : Asked) (fault : InstructionException) (a : Around) (m : State)
    (b : Around) (t : State) : Type 0 where
  -- an exception of the hart too
  Stands : may_differ fault ≡ false → b ≡ stopped_at a (Signal (signal_of fault)) → t ≡ m
      → FaultStops asked fault a m b t
  -- the step of the hart is to touch a watchpoint
  ToTouch : (watch : Watch) → may_differ fault ≡ true
      → HartTouchesOne asked.watches asked.profile (hart_with m a.reserved) watch
      → b ≡ stopped_at a (Touched watch) → t ≡ m
      → FaultStops asked fault a m b t
  -- the step of the hart raises this exception, which is no call
  Left : (left : InstructionException) → may_differ fault ≡ true → is_call left ≡ false
      → Raises asked left a m b t → b.stop ≡ Signal (signal_of left)
      → FaultStops asked fault a m b t
  -- the step of the hart leads to a breakpoint
  ToStop : may_differ fault ≡ true → SteppedOn asked a m b t
      → Contains asked.stops t.pc → b.stop ≡ Signal 5
      → FaultStops asked fault a m b t

-- ---- the program goes on

-- The program stops at an exception: at a call as that says, also where it is one of the hart's step
-- alone, and else at the instruction.
pub data StopsAt (asked : Asked) (fault : InstructionException) (a : Around) (m : State)
    (b : Around) (t : State) : Type 0 where
  AtCall : (pc : ℕ) → fault ≡ EnvironmentCall pc → CallStops asked a m b t
      → StopsAt asked fault a m b t
  AtHartsCall : (pc : ℕ) (c : Around) (u : State) → may_differ fault ≡ true
      → Raises asked (EnvironmentCall pc) a m c u → CallStops asked c u b t
      → StopsAt asked fault a m b t
  AtFault : is_call fault ≡ false → FaultStops asked fault a m b t
      → StopsAt asked fault a m b t

-- The program goes on behind an exception: the call is served, or a step of the hart is made, and
-- leads to no breakpoint.
pub data Passes (asked : Asked) (fault : InstructionException) (a : Around) (m : State)
    (b : Around) (t : State) : Type 0 where
  ByCall : (pc : ℕ) → fault ≡ EnvironmentCall pc → CallMade asked a m b t
      → Passes asked fault a m b t
  ByHartsCall : (pc : ℕ) (c : Around) (u : State) → may_differ fault ≡ true
      → Raises asked (EnvironmentCall pc) a m c u → CallMade asked c u b t
      → Passes asked fault a m b t
  ByStep : may_differ fault ≡ true → SteppedOn asked a m b t → ¬ Contains asked.stops t.pc
      → Passes asked fault a m b t

-- the most steps and calls that a program may make, and where it stops after these
pub record Most : Type 0 where
  pub steps : ℕ
  pub at : Stop

-- one step or call is a stop by SIGTRAP, and the limit of a `continue` one by SIGINT, 2
abbrev pub one_step : Most
one_step = record { steps = 1; at = Signal 5 }

abbrev pub up_to : ℕ → Most
up_to limit = record { steps = limit; at = Signal 2 }

-- what was told of the call at the pc is so still, if no step was made
abbrev pub still : ℕ → Bool → Bool
still zero told = told
still (suc steps) told = false

-- So many steps were made from s to t. The history keeps them, if there is room for one at least.
pub record Ran (steps : ℕ) (a : Around) (s : State) (b : Around) (t : State) : Type 0 where
  pub environment_kept : b.environment ≡ a.environment
  pub reserved_kept : b.reserved ≡ a.reserved
  pub kept : 1 ≤ room a.history → KeepsSteps steps a.history s b.history t
  pub entered_kept : b.entered ≡ still steps a.entered
  pub told_kept : b.told_exit ≡ still steps a.told_exit

-- From a and s the program goes on to b and t, within a limit of steps and calls: by runs up to
-- stops and watchpoints, and between two of them by a call that is served or a step of the hart. It stops at no call but by what gdb asked for.
pub data GoesOn (asked : Asked) (at_limit : Stop) (b : Around) (t : State)
    : ℕ → Around → State → Type 0 where
  -- a run, to no exception
  Runs : (limit : ℕ) (a : Around) (s : State) (steps : ℕ) (reason : ForwardReason)
      → GoesForward asked.stops asked.watches limit s steps reason t
      → ends_by_fault reason ≡ false
      → Ran steps a s b t → b.stop ≡ stop_of at_limit reason
      → GoesOn asked at_limit b t limit a s
  -- a run to an exception, and a stop there
  Stops : (limit : ℕ) (a : Around) (s : State) (steps : ℕ) (fault : InstructionException)
      (c : Around) (m : State)
      → GoesForward asked.stops asked.watches limit s steps (Fault fault) m
      → Ran steps a s c m → StopsAt asked fault c m b t
      → GoesOn asked at_limit b t limit a s
  -- a run to an exception, what passes it, and what follows within what is left of the limit
  GoesBehind : (limit : ℕ) (a : Around) (s : State) (steps : ℕ) (fault : InstructionException)
      (c : Around) (m : State) (d : Around) (u : State)
      → GoesForward asked.stops asked.watches limit s steps (Fault fault) m
      → Ran steps a s c m → Passes asked fault c m d u
      → GoesOn asked at_limit b t (limit - steps - 1) d u
      → GoesOn asked at_limit b t limit a s

-- A program that is asked to go on does so, or nothing changes, as where it ended before.
abbrev pub GoesOnOrStays : Asked → Most → Around → State → Around → State → Type 0
GoesOnOrStays asked most a s b t =
    ((b.environment ≡ a.environment) × (t ≡ s)) ⊎ GoesOn asked most.at b t most.steps a s

-- The same from this state, or from there with another pc. A history leads nowhere from there.
abbrev pub GoesOnFrom : Asked → Most → Around → State → Around → State → Type 0
GoesOnFrom asked most a s b t =
    GoesOnOrStays asked most a s b t
    ⊎ ((pc : ℕ) × GoesOnOrStays asked most (forgotten a) (with_pc s pc) b t)

-- A program that is asked to go on does so. One that has ended stays as it is.
abbrev pub GoesOnUnless : Bool → Asked → Most → Around → State → Around → State → Type 0
GoesOnUnless true asked most a s b t = (b ≡ a) × (t ≡ s)
GoesOnUnless false asked most a s b t = GoesOn asked most.at b t most.steps a s

-- `s` and `c`, after which nothing stands, or the address to go on from. gdb is told where the
-- program stops.
pub record Resumes (rest : List ℕ) (ended : Bool) (asked : Asked) (most : Most)
    (a : Around) (s : State) (b : Around) (t : State) (old new : List ℕ) : Type 0 where
  pub here : rest ≡ [] → GoesOnUnless ended asked most a s b t
  pub from_address : IsNumber rest
      → GoesOnUnless ended asked most (forgotten a) (with_pc s (number rest)) b t
  pub told : (rest ≡ []) ⊎ IsNumber rest → new ≡ old ++ stop_text b.stop
  pub refused : rest ≢ [] → ¬ IsNumber rest → IsError old new

-- the number of a signal
abbrev pub IsSignal : List ℕ → Type 0
IsSignal digits = IsNumber digits × (number digits ≤ 255)

-- a program ends by a signal, where it is, unless it has ended
abbrev pub KilledUnless : Bool → ℕ → Around → State → Around → State → Type 0
KilledUnless true signal a s b t = (b ≡ a) × (t ≡ s)
KilledUnless false signal a s b t = (b ≡ stopped_at a (stop.Killed signal)) × (t ≡ s)

-- `S` and `C`: a signal, after which nothing stands, or a semicolon and the address to go on from.
-- Signal 0 is none. By another one the program ends, where it is.
pub record Signals (text : List ℕ) (ended : Bool) (asked : Asked) (most : Most)
    (a : Around) (s : State) (b : Around) (t : State) (old new : List ℕ) : Type 0 where
  pub none : IsNumber (before 59 text) → number (before 59 text) ≡ 0
      → Resumes (behind 59 text) ended asked most a s b t old new
  pub kills : IsSignal (before 59 text) → 1 ≤ number (before 59 text) → behind 59 text ≡ []
      → KilledUnless ended (number (before 59 text)) a s b t × (new ≡ old ++ stop_text b.stop)
  pub refused : ¬ IsSignal (before 59 text) → IsError old new

-- the first action of `vCont`, without the thread that it is for
abbrev pub first_action : List ℕ → List ℕ
first_action actions = before 58 (before 59 actions)

-- `vCont;actions`: the first action counts.
pub record Acts (actions : List ℕ) (ended : Bool) (asked : Asked) (limit : ℕ)
    (a : Around) (s : State) (b : Around) (t : State) (old new : List ℕ) : Type 0 where
  pub step : first_action actions ≡ codes "s"
      → GoesOnUnless ended asked one_step a s b t × (new ≡ old ++ stop_text b.stop)
  pub goes_on : first_action actions ≡ codes "c"
      → GoesOnUnless ended asked (up_to limit) a s b t × (new ≡ old ++ stop_text b.stop)

-- ---- the program goes back

-- What is noted before a call, and before a step of the hart that is kept: of the environment
-- how much input was left, the break, and the state of the pseudo-random numbers; how much output
-- had been made; and the address that was reserved.
abbrev pub mark_of : Recording → ℕ → Option ℕ → CallMark
mark_of e made reserved = record {
  left = length e.input.now;
  top = e.heap.top;
  made = made;
  random = e.random;
  reservation = reserved;
}

-- That is noted of one that is made, before those of the ones before it, as far as there is room.
abbrev pub NotesCall : Recording → (old new : SessionState) → Type 0
NotesCall e old new = new.calls.items
    ≡ take old.calls.capacity (mark_of e old.made old.reservation ∷ old.calls.items)

-- A call is taken back: of the environment the input, the heap and the state of the pseudo-random
-- numbers may change, and nothing else.
pub record CallTakenBack (e e' : Recording) : Type 0 where
  pub output_kept : e'.output ≡ e.output
  pub errors_kept : e'.errors ≡ e.errors
  pub unserved_kept : e'.unserved ≡ e.unserved
  pub held_kept : e'.held ≡ e.held

-- What was noted before the call is given back: the input that was left, the break, the state of
-- the pseudo-random numbers, how much output had been made, and the address that was reserved. The
-- calls before it are noted still.
pub record GivenBack (mark : CallMark) (old new : SessionState) (e e' : Recording) : Type 0 where
  pub input : e'.input.now ≡ drop (length old.input.now - mark.left) old.input.now
  pub top : e'.heap ≡ record e.heap { top = mark.top }
  pub random : e'.random ≡ mark.random
  pub made : new.made ≡ mark.made
  pub reserved : new.reservation ≡ mark.reservation
  pub calls : new.calls.items ≡ drop 1 old.calls.items

-- where a run back stops, and why
abbrev pub stop_back : BackEnd → Stop
stop_back Back.AtStop = Signal 5
stop_back (Back.Touched watch) = Touched watch
stop_back Back.Call = Signal 5
stop_back Back.AtBegin = AtBegin
stop_back Back.Limit = Signal 5

-- the call, or the step of the hart, that was taken back touches no watchpoint
abbrev pub NoneTouchedBehind : List Watch → HartProfile → State → Type 0
NoneTouchedBehind watches p u =
    (reserved : Option ℕ) × HartTouchesNone watches p (hart_with u reserved)

-- From e and s, with the states before it, the program goes back to e' and t, with those before
-- that, within a limit, by so many steps in all: by runs back up to stops and watchpoints, and over
-- the calls and the steps of the hart between them. It stops there as said.
pub data GoesOnBack (at : Stop) (stops : List ℕ) (watches : List Watch) (p : HartProfile)
    (e' : Recording) (t : State) (after : List State) : ℕ → ℕ → Recording → State → List State → Type 0 where
  -- a run back, to no call
  RunsBack : (limit steps : ℕ) (e : Recording) (s : State) (before : List State) (end : BackEnd)
      → GoesBack stops watches limit s before after t steps end → end ≢ Back.Call → e' ≡ e
      → at ≡ stop_back end
      → GoesOnBack at stops watches p e' t after limit steps e s before
  -- a run back over a call, to a stop
  StopsBack : (limit steps : ℕ) (e : Recording) (s : State) (before : List State)
      → GoesBack stops watches limit s before after t steps Back.Call → CallTakenBack e e'
      → NoneTouchedBehind watches p t → Contains stops t.pc → at ≡ Signal 5
      → GoesOnBack at stops watches p e' t after limit steps e s before
  -- a run back over a step of the hart that touches a watchpoint; it is made again, and is not
  -- counted
  TouchesBack : (limit steps : ℕ) (e : Recording) (s : State) (before : List State)
      (u : State) (between : List State) (watch : Watch)
      (reserved reserved' : Option ℕ) (old new : History) (answer : StepAnswer)
      → GoesBack stops watches limit s before between u (suc steps) Back.Call → CallTakenBack e e'
      → HartTouchesOne watches p (hart_with u reserved) watch
      → between ≡ past (changes old) u → after ≡ past (changes new) t
      → HartStepped p reserved old u answer reserved' new t → at ≡ Touched watch
      → GoesOnBack at stops watches p e' t after limit steps e s before
  -- a run back over a call, and what follows within what is left of the limit
  CallsBack : (limit steps more : ℕ) (e : Recording) (s : State) (before : List State)
      (d : Recording) (u : State) (between : List State)
      → GoesBack stops watches limit s before between u steps Back.Call → CallTakenBack e d
      → NoneTouchedBehind watches p u → ¬ Contains stops u.pc
      → GoesOnBack at stops watches p e' t after (limit - 1) more d u between
      → GoesOnBack at stops watches p e' t after limit (steps + more) e s before

-- A session goes back so: from where its history leads back to, with its breakpoints. The steps
-- that were taken back are no longer counted.
abbrev pub SessionGoesBack : ℕ → Stop → SessionState → Recording → State → SessionState → Recording
    → State → Type 0
SessionGoesBack limit at old e s new e' t =
    (gone : ℕ) × (new.steps ≡ old.steps - gone)
    × GoesOnBack at old.breaks.stops.items old.breaks.watches.items old.profile e' t
    (past (changes new.history) t) limit gone e s (past (changes old.history) s)

-- ---- of the code

-- what comes of going on so
abbrev pub GoesBy : Going → Bool → Asked → ℕ → Around → State → Around → State → Type 0
GoesBy Step ended asked limit a s b t = GoesOnUnless ended asked one_step a s b t
GoesBy Proceed ended asked limit a s b t = GoesOnUnless ended asked (up_to limit) a s b t
GoesBy (Killed signal) ended asked limit a s b t = KilledUnless ended signal a s b t

-- the action is to go on so, and this stands after its letter
abbrev pub HasAction : List ℕ → Going → List ℕ → Type 0
HasAction action going rest =
    (letter action ≡ 115 → (going ≡ Step) × (rest ≡ drop 1 action))
    × (letter action ≡ 99 → (going ≡ Proceed) × (rest ≡ drop 1 action))

-- the letter of an action by which the program goes on so
abbrev pub HasLetter : List ℕ → Going → Type 0
HasLetter action Step = (letter action ≡ 115) ⊎ (letter action ≡ 83)
HasLetter action Proceed = (letter action ≡ 99) ⊎ (letter action ≡ 67)
HasLetter action (Killed signal) = (letter action ≡ 67) ⊎ (letter action ≡ 83)

-- how the program goes on by a signal: as it would by none, or it is killed
abbrev pub signalled : Going → ℕ → Going
signalled by zero = by
signalled by (suc n) = Killed (suc n)

-- the signal is one, the program goes on by it, and this stands after it
abbrev pub BySignal : List ℕ → Going → Going → List ℕ → Type 0
BySignal text by going rest =
    IsSignal (before 59 text) × (rest ≡ behind 59 text)
    × (going ≡ signalled by (number (before 59 text)))

-- the action is to go on by a signal
abbrev pub HasSignal : List ℕ → Going → List ℕ → Type 0
HasSignal action going rest =
    (letter action ≡ 83 → BySignal (drop 1 action) Step going rest)
    × (letter action ≡ 67 → BySignal (drop 1 action) Proceed going rest)

-- the action is not to go on by a signal
abbrev pub HasNoSignal : List ℕ → Type 0
HasNoSignal action =
    (letter action ≡ 83 → ¬ IsSignal (before 59 (drop 1 action)))
    × (letter action ≡ 67 → ¬ IsSignal (before 59 (drop 1 action)))

-- ---- a session

-- a session, and the program that it is of
pub record Debugged : Type 0 where
  pub session : SessionState
  pub program : State

abbrev pub debugged : SessionState → State → Debugged
debugged session program = record { session = session; program = program }

-- The turn of a packet: it is answered, and may end the session.
pub record Turn {R W : Type 0} (contents : W → Option (List ℕ)) (payload : List ℕ)
    (m : Debugged) (old : Link R W) (n : Debugged) (new : Link R W) (end : Option SessionEnd)
    : Type 0 where
  -- `?` and `g`
  pub stopped : payload ≡ codes "?"
      → Appends (contents old.writer) (contents new.writer) (packet (stop_text m.session.stop))
  pub shows : payload ≡ codes "g"
      → Appends (contents old.writer) (contents new.writer) (packet (registers_text m.program))
  -- what neither runs the program nor ends the session has one packet as its answer
  pub answered : RunsNone payload → EndsNone payload → (reply : List ℕ)
      × Appends (contents old.writer) (contents new.writer) (packet reply)
  pub asks : ChangesNone payload → RunsNone payload → n.program ≡ m.program
  pub goes_on : EndsNone payload → end ≡ None
  pub ends : (letter payload ≡ 68) ⊎ (payload ≡ codes "k") → end ≡ Some Ending.Ended
  pub restarts : letter payload ≡ 82 → end ≡ Some Ending.Restart

-- A session goes so: gdb is told where the program stopped, if it waits for that, and then the
-- packets have their turns.
pub record Serves {R W : Type 0} (remaining : R → Option (List ℕ)) (contents : W → Option (List ℕ))
    (m : Debugged) (old : Link R W) (n : Debugged) (new : Link R W) (end : SessionEnd)
    : Type 0 where
  pub begun : Link R W
  pub owed : m.session.owes_stop ≡ true
      → Appends (contents old.writer) (contents begun.writer) (packet (stop_text m.session.stop))
  pub owes_none : m.session.owes_stop ≡ false → begun ≡ old
  pub turns : Turns remaining contents (Turn contents) Ending.Ended
      (debugged (record m.session { owes_stop = false }) m.program) begun n new end
