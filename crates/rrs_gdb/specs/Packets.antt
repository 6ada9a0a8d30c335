-- Packets (gdb's manual, "Remote Serial Protocol", "Overview"): `$`, the payload, `#`, and two
-- hexadecimal digits of the sum of all bytes between, modulo 256. In a payload the bytes `#`, `$`
-- and `}` are sent as `}` and the byte with its bit of value 32 turned; in an answer `*` too, which
-- there begins a run of a byte. Numbers in a payload are hexadecimal, and a comma, a colon, a
-- semicolon or an equals sign stands between two of its fields.
use Rattle.std.specs.Prelude.{◌≡◌, ◌≢◌, ◌⊎◌, ℕ, ◌/◌, ◌%◌, ◌^◌, ◌<◌, ◌≤◌, ◌==◌, ◌||◌, if◌then◌else◌, List, [], ◌∷◌, ◌++◌, length, take, sum, slice_index, nat_lt, bit_xor, Bool, true, false, Option, Some, None, option_map, Ok, codes}
use Rattle.std.specs.Str.Parse.{IsNumeral, digits_value}
use Rattle.std.specs.Str.{IsUtf8}
use Rattle.hex.specs.Hex.{lower_digits, decode_of, decode_sized}
use Rattle.rrs_gdb.specs.declared.link.Frame.{Frame}
use Rattle.rrs_gdb.specs.declared.link.Received.{Received}
use Rattle.rrs_gdb.specs.declared.link.Received.TheVariants as Is
use Rattle.rrs_gdb.specs.declared.framing.PacketError.{PacketError}
use Rattle.rrs_gdb.specs.declared.framing.PacketError.TheVariants.{WrongSum, CutOff, OutOfMemory}

-- a byte as two digits in lower case, the high four bits first
abbrev pub digits_of : ℕ → List ℕ
digits_of b = slice_index lower_digits (b / 16) ∷ slice_index lower_digits (b % 16) ∷ []

-- the sum of bytes modulo 256
abbrev pub checksum : List ℕ → ℕ
checksum bytes = sum bytes % 256

-- ---- what is sent

-- `#`, `$`, `*` and `}`
abbrev pub is_special : ℕ → Bool
is_special b = b == 35 || b == 36 || b == 42 || b == 125

-- with the bit of value 32 turned
abbrev pub turned : ℕ → ℕ
turned b = bit_xor b 32

abbrev pub escaped_byte : ℕ → List ℕ
escaped_byte b = if is_special b then 125 ∷ turned b ∷ [] else b ∷ []

abbrev pub escaped : List ℕ → List ℕ
escaped [] = []
escaped (b ∷ bs) = escaped_byte b ++ escaped bs

-- the packet of a payload
abbrev pub packet : List ℕ → List ℕ
packet payload =
    codes "$" ++ (escaped payload ++ (codes "#" ++ digits_of (checksum (escaped payload))))

-- ---- what is received

-- The payload that bytes stand for, the first of them after a `}` or not. After a `}` a byte is
-- missing where they end.
abbrev pub unescaped_from : Bool → List ℕ → Option (List ℕ)
unescaped_from false [] = Some []
unescaped_from true [] = None
unescaped_from true (b ∷ bs) = option_map (λ xs. turned b ∷ xs) (unescaped_from false bs)
unescaped_from false (b ∷ bs) =
    if b == 125 then unescaped_from true bs
    else option_map (λ xs. b ∷ xs) (unescaped_from false bs)

abbrev pub unescaped : List ℕ → Option (List ℕ)
unescaped bytes = unescaped_from false bytes

-- the digits after these bytes are those of their sum
abbrev pub HasSum : List ℕ → List ℕ → Type 0
HasSum bytes digits = decode_sized digits 1 ≡ Ok (checksum bytes ∷ [])

-- why bytes and the digits after them are refused
abbrev pub Refuses : PacketError → List ℕ → List ℕ → Type 0
Refuses WrongSum bytes digits = HasSum bytes digits → ⊥
Refuses CutOff bytes digits = unescaped bytes ≡ None
Refuses OutOfMemory bytes digits = Unit {0}

-- What a frame is. A packet that is too long is no good, nor is one that is cut off. One with
-- another sum is asked for again where packets are acknowledged.
abbrev pub IsMeaning : Bool → Frame → Option Received → Type 0
IsMeaning acknowledges frame None =
    (frame.is_long ≡ false) × (acknowledges ≡ true) × ¬ HasSum frame.bytes.items frame.digits
IsMeaning acknowledges frame (Some (Is.Packet payload)) =
    (frame.is_long ≡ false) × HasSum frame.bytes.items frame.digits
    × (unescaped frame.bytes.items ≡ Some payload.items)
IsMeaning acknowledges frame (Some Is.Bad) =
    (frame.is_long ≡ true) ⊎ ((acknowledges ≡ false) × ¬ HasSum frame.bytes.items frame.digits)
    ⊎ (unescaped frame.bytes.items ≡ None)
IsMeaning acknowledges frame (Some Is.End) = ⊥

-- what stands before the first of these bytes, which is all where there is none
abbrev pub before : ℕ → List ℕ → List ℕ
before at [] = []
before at (b ∷ bs) = if b == at then [] else b ∷ before at bs

-- what stands after it, which is nothing where there is none
abbrev pub behind : ℕ → List ℕ → List ℕ
behind at [] = []
behind at (b ∷ bs) = if b == at then bs else behind at bs

-- what stands after the last of these bytes, and after what was there before where there is none
abbrev pub since_last : ℕ → List ℕ → List ℕ → List ℕ
since_last at before [] = before
since_last at before (b ∷ bs) =
    if b == at then since_last at [] bs else since_last at (before ++ b ∷ []) bs

-- A packet as it is read after its `$`: bytes up to `#`, and two digits. A `$` among the bytes
-- begins another packet. One of more than 16,384 bytes is too long.
pub record IsFrame (read : List ℕ) (frame : Frame) : Type 0 where
  pub all : read ≡ before 35 read ++ 35 ∷ frame.digits
  pub kept : frame.bytes.items ≡ take 16384 (since_last 36 [] (before 35 read))
  pub long : frame.is_long ≡ nat_lt 16384 (length (since_last 36 [] (before 35 read)))

-- What is received of the bytes that are read, and the bytes that are written meanwhile, where this
-- packet was sent last (gdb's manual, "Remote Serial Protocol", "Overview" and "Packet
-- Acknowledgment"): `+` acknowledges a packet, and `-` asks for it again.
pub data Receives (acknowledges : Bool) (last : List ℕ) (received : Received)
    : List ℕ → List ℕ → Type 0 where
  -- a packet
  Taken : (read : List ℕ) (frame : Frame) → IsFrame read frame
      → IsMeaning acknowledges frame (Some received)
      → Receives acknowledges last received (36 ∷ read)
      (if acknowledges then codes "+" else [])
  -- a packet that is asked for again, and what follows
  AskedAgain : (read rest written : List ℕ) (frame : Frame) → IsFrame read frame
      → IsMeaning acknowledges frame None → Receives acknowledges last received rest written
      → Receives acknowledges last received (36 ∷ read ++ rest) (codes "-" ++ written)
  -- a `-`, by which the last packet is sent again, and what follows
  SentAgain : (rest written : List ℕ) → Receives acknowledges last received rest written
      → Receives acknowledges last received (45 ∷ rest) (last ++ written)
  -- another byte, which is skipped, and what follows
  Skipped : (b : ℕ) (rest written : List ℕ) → b ≢ 36 → b ≢ 45
      → Receives acknowledges last received rest written
      → Receives acknowledges last received (b ∷ rest) written

-- what comes of such bytes, where a packet or none is received of them
abbrev pub ComesTo : Bool → List ℕ → Option Received → List ℕ → List ℕ → Type 0
ComesTo acknowledges last (Some received) read written =
    Receives acknowledges last received read written
ComesTo acknowledges last None read written =
    (received : Received) (rest more : List ℕ)
    → Receives acknowledges last received rest more
    → Receives acknowledges last received (read ++ rest) (written ++ more)

-- no whole packet: nothing, or a `$` with less than a `#` and two digits behind it
abbrev pub IsBegun : List ℕ → Type 0
IsBegun [] = Unit {0}
IsBegun (b ∷ bs) = (b ≡ 36) × (length (behind 35 bs) < 2)

-- The bytes that are read where no packet is received, and the bytes that are written meanwhile:
-- those of which none is received, and what has begun behind them.
pub record Waits (acknowledges : Bool) (last read written : List ℕ) : Type 0 where
  pub past : List ℕ
  pub begun : List ℕ
  pub all : read ≡ past ++ begun
  pub none : ComesTo acknowledges last None past written
  pub no_packet : IsBegun begun

-- ---- the numbers and the fields of a payload

-- one to eight hexadecimal digits, and the number that they are
abbrev pub IsNumber : List ℕ → Type 0
IsNumber digits = IsNumeral 16 digits × (length digits ≤ 8)

abbrev pub number : List ℕ → ℕ
number digits = digits_value 16 digits

-- decimal digits of a number below 2^64, as in what a person types, and the number that they are
abbrev pub IsDecimal : List ℕ → Type 0
IsDecimal digits = IsNumeral 10 digits × (digits_value 10 digits < 2 ^ 64)

abbrev pub decimal : List ℕ → ℕ
decimal digits = digits_value 10 digits

-- numbers with semicolons between
abbrev pub AreNumbers : List ℕ → List ℕ → Type 0
AreNumbers [] text = text ≡ []
AreNumbers (n ∷ ns) text =
    (text ≢ []) × IsNumber (before 59 text) × (n ≡ number (before 59 text))
    × AreNumbers ns (behind 59 text)

-- texts, each in digits, with semicolons between
abbrev pub AreTexts : List (List ℕ) → List ℕ → Type 0
AreTexts [] text = text ≡ []
AreTexts (t ∷ ts) text =
    (text ≢ []) × (decode_of (before 59 text) ≡ Ok t) × IsUtf8 t × AreTexts ts (behind 59 text)

-- an address and a length, with a comma between
abbrev pub IsPlace : List ℕ → Type 0
IsPlace text = IsNumber (before 44 text) × IsNumber (behind 44 text)

abbrev pub address_in : List ℕ → ℕ
address_in text = number (before 44 text)

abbrev pub length_in : List ℕ → ℕ
length_in text = number (behind 44 text)
