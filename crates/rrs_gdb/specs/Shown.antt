-- How gdb is shown the machine (gdb's manual, "Remote Serial Protocol", "Packets": g, p and m):
-- each byte as two hexadecimal digits, and a register as its bytes, the lowest first. The registers
-- are x0 to x31 and then the pc, by the numbers of the target's description. And how it is told
-- where the program stopped ("Stop Reply Packets": S, T, W and X).
use Rattle.std.specs.Prelude.{◌≡◌, ℕ, zero, suc, ◌+◌, ◌*◌, ◌/◌, ◌%◌, ◌<◌, ◌≤◌, ◌==◌, if◌then◌else◌, List, [], ◌∷◌, ◌++◌, length, slice_index, slice_set, false, Option, None, Some, codes}
use Rattle.std.specs.Io.KnownBytes.{Appends, Consumes}
use Rattle.std.specs.Fmt.{digits}
use Rattle.rrs_lib.specs.Bytes.{ByteMap}
use Rattle.rrs_lib.specs.Machine.{State, reg, with_pc}
use Rattle.rrs_gdb.specs.declared.breaks.WatchKind.{WatchKind}
use Rattle.rrs_gdb.specs.declared.breaks.WatchKind.TheVariants as Kind
use Rattle.rrs_gdb.specs.declared.state.Stop.{Stop}
use Rattle.rrs_gdb.specs.declared.state.Stop.TheVariants.{Signal, Touched, AtBegin, Entry, Return, Exited, Killed}
use Rattle.rrs_gdb.specs.declared.link.Link.{Link}
use Rattle.rrs_gdb.specs.declared.link.Received.{Received}
use Rattle.rrs_gdb.specs.declared.link.Received.TheVariants.{Packet, Bad}
use Rattle.rrs_gdb.specs.Packets.{Receives, Waits, digits_of, packet}

-- bytes as digits
abbrev pub text_of : List ℕ → List ℕ
text_of [] = []
text_of (b ∷ bs) = digits_of b ++ text_of bs

-- a word as four bytes, the lowest first
abbrev pub word_bytes : ℕ → List ℕ
word_bytes w = w % 256 ∷ w / 256 % 256 ∷ w / 65536 % 256 ∷ w / 16777216 % 256 ∷ []

-- the register of a number: x0 to x31, or the pc
abbrev pub register : State → ℕ → ℕ
register s n = if n == 32 then s.pc else reg s n

abbrev pub register_text : State → ℕ → List ℕ
register_text s n = text_of (word_bytes (register s n))

-- words, one after another
abbrev pub words_text : List ℕ → List ℕ
words_text [] = []
words_text (w ∷ ws) = text_of (word_bytes w) ++ words_text ws

-- all registers: x0, which is 0, the others, and the pc
abbrev pub registers_text : State → List ℕ
registers_text s = words_text (0 ∷ s.registers ++ s.pc ∷ [])

-- The state with one of the registers 1 to 31 changed, or the pc. x0 is 0 and stays.
abbrev pub with_general : State → ℕ → ℕ → State
with_general s zero value = s
with_general s (suc r) value = record s { registers = slice_set s.registers r value }

abbrev pub with_register : State → ℕ → ℕ → State
with_register s n value = if n == 32 then with_pc s value else with_general s n value

-- the word whose bytes stand at a place of some bytes, the lowest first
abbrev pub word_at : List ℕ → ℕ → ℕ
word_at bytes i =
    slice_index bytes i + 256 * slice_index bytes (i + 1) + 65536 * slice_index bytes (i + 2)
    + 16777216 * slice_index bytes (i + 3)

-- the memory has these bytes from a on
abbrev pub HasBytes : ByteMap → ℕ → List ℕ → Type 0
HasBytes bytes a values = (i : ℕ) → i < length values → bytes (a + i) ≡ Some (slice_index values i)

-- ---- where the program stopped

-- the kind of a watchpoint
abbrev pub kind_name : WatchKind → List ℕ
kind_name Kind.Write = codes "watch"
kind_name Kind.Read = codes "rwatch"
kind_name Kind.Access = codes "awatch"

-- by SIGTRAP, 5, with what is to be told, and a number in hexadecimal digits
abbrev pub named_text : List ℕ → ℕ → List ℕ
named_text name number = codes "T05" ++ (name ++ (codes ":" ++ (digits 16 false number ++ codes ";")))

abbrev pub stop_text : Stop → List ℕ
stop_text (Signal signal) = codes "S" ++ digits_of signal
stop_text (Touched watch) = named_text (kind_name watch.kind) watch.address
stop_text AtBegin = codes "T05replaylog:begin;"
stop_text (Entry number) = named_text (codes "syscall_entry") number
stop_text (Return number) = named_text (codes "syscall_return") number
stop_text (Exited status) = codes "W" ++ digits_of status
stop_text (Killed signal) = codes "X" ++ digits_of signal

-- ---- what the program prints (gdb's manual, "Stop Reply Packets": O)

abbrev pub output_packet : List ℕ → List ℕ
output_packet part = packet (codes "O" ++ text_of part)

-- Output is sent in parts, in order. A packet has room for 2,048 bytes in digits.
pub data SentAs : List ℕ → List ℕ → Type 0 where
  Nothing : SentAs [] []
  Part : (part rest sent : List ℕ) → length part ≤ 2048 → SentAs rest sent
      → SentAs (part ++ rest) (output_packet part ++ sent)

-- what is written on a link, after what was written before, is the output
abbrev pub Prints : {R W : Type 0} → (W → Option (List ℕ)) → Link R W → Link R W → List ℕ → Type 0
Prints contents old new output =
    (sent : List ℕ) × SentAs output sent × Appends (contents old.writer) (contents new.writer) sent

-- ---- what is exchanged on a link

-- what was read and what was written between two moments of a link
pub record Exchanges {R W : Type 0} (remaining : R → Option (List ℕ))
    (contents : W → Option (List ℕ)) (old new : Link R W)
    (IsMeant : List ℕ → List ℕ → Type 0) : Type 0 where
  pub read : List ℕ
  pub written : List ℕ
  pub consumed : Consumes (remaining old.reader) (remaining new.reader) read
  pub appended : Appends (contents old.writer) (contents new.writer) written
  pub meant : IsMeant read written

-- a packet with this payload
abbrev pub IsPayload : List ℕ → Received → Type 0
IsPayload payload (Packet bytes) = bytes.items ≡ payload
IsPayload payload _ = ⊥

-- What is asked on a link, if anything is before the input ends, after packets that are no good,
-- each of which is answered by an error (`EINVAL`, 22).
pub data Requests {R W : Type 0} (remaining : R → Option (List ℕ))
    (contents : W → Option (List ℕ)) : Option (List ℕ) → Link R W → Link R W → Type 0 where
  Asks : (old new : Link R W) (payload : List ℕ) (asked : Received) → IsPayload payload asked
      → Exchanges remaining contents old new (Receives old.acknowledges old.last.items asked)
      → Requests remaining contents (Some payload) old new
  Ends : (old new : Link R W)
      → Exchanges remaining contents old new (Waits old.acknowledges old.last.items)
      → Requests remaining contents None old new
  Refuses : (asked : Option (List ℕ)) (old mid next new : Link R W)
      → Exchanges remaining contents old mid (Receives old.acknowledges old.last.items Bad)
      → next.reader ≡ mid.reader → next.last.items ≡ packet (codes "E16")
      → Appends (contents mid.writer) (contents next.writer) (packet (codes "E16"))
      → Requests remaining contents asked next new
      → Requests remaining contents asked old new

-- A session on a link: each packet that is asked has its turn, in order, until one ends the session
-- or the input ends.
pub data Turns {S E R W : Type 0} (remaining : R → Option (List ℕ)) (contents : W → Option (List ℕ))
    (Turn : List ℕ → S → Link R W → S → Link R W → Option E → Type 0) (ended : E)
    : S → Link R W → S → Link R W → E → Type 0 where
  Over : (s : S) (old new : Link R W) → Requests remaining contents None old new
      → Turns remaining contents Turn ended s old s new ended
  Last : (s t : S) (old mid new : Link R W) (end : E) (payload : List ℕ)
      → Requests remaining contents (Some payload) old mid
      → Turn payload s mid t new (Some end)
      → Turns remaining contents Turn ended s old t new end
  Then : (s t u : S) (old mid next new : Link R W) (end : E) (payload : List ℕ)
      → Requests remaining contents (Some payload) old mid
      → Turn payload s mid t next None
      → Turns remaining contents Turn ended t next u new end
      → Turns remaining contents Turn ended s old u new end
