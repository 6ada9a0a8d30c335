-- What is said of a program that prints: it writes a string to a port, one byte after the other.
-- Registers go by their numbers: x1 has the address to return to, x10 that of the port, and x11
-- that of the string, as the C calling convention has it.
use Rattle.std.specs.Prelude.{◌≡◌, ◌≢◌, ℕ, ◌+◌, ◌<◌, List, [], ◌∷◌, map, length, slice_index, true, Some, IsTrue}
use Rattle.rrs_lib.specs.declared.MemAccessSize.TheVariants.{Byte}
use Rattle.rrs_lib.specs.Bytes.{ByteMap}
use Rattle.rrs_lib.specs.Machine.{State, reg}
use Rattle.rrs_lib.specs.Accesses.{Access, Read, Write}
use Rattle.rrs_extra.specs.Programs.{AreApart}
use Rattle.rrs_programs.specs.Computing.{IsCalled}

-- ---- strings

-- The bytes of the text are at a and after it, and then a 0. Each is a byte that is not 0 itself.
pub record HoldsString (bytes : ByteMap) (a : ℕ) (text : List ℕ) : Type 0 where
  pub each : (i : ℕ) → i < length text → bytes (a + i) ≡ Some (slice_index text i)
  pub not_zero : (i : ℕ) → i < length text → slice_index text i ≢ 0
  pub below_256 : (i : ℕ) → i < length text → slice_index text i < 256
  pub ended : bytes (a + length text) ≡ Some 0

-- ---- the program

-- the words of the program
abbrev pub put_string_program : List ℕ
put_string_program =
    0x0005c783  -- lbu x15, 0(x11)
    ∷ 0x00079463  -- bne x15, x0, 8 bytes on
    ∷ 0x00008067  -- jalr x0, 0(x1)
    ∷ 0x00158593  -- addi x11, x11, 1
    ∷ 0x00f50023  -- sb x15, 0(x10)
    ∷ 0xfedff06f  -- jal x0, 20 bytes back
    ∷ []

-- x10 has the address of a port of one byte, and x11 that of the text. The program, the word at the
-- address to return to, and the text with its 0 are apart from the port.
pub record PutStringStarts (text : List ℕ) (s : State) : Type 0 where
  pub called : IsCalled put_string_program s
  pub string : HoldsString s.bytes (reg s 11) text
  pub port_writable : IsTrue (s.writable (reg s 10))
  pub apart_from_program : AreApart (reg s 10) 1 s.pc 24
  pub apart_from_text : AreApart (reg s 10) 1 (reg s 11) (length text + 1)
  pub apart_from_return : AreApart (reg s 10) 1 (reg s 1) 4

-- ---- what is printed

-- the writes of a list of accesses, in their order
abbrev pub writes_of : List Access → List Access
writes_of [] = []
writes_of (Read address size answer ∷ accesses) = writes_of accesses
writes_of (Write address size value answer ∷ accesses) =
    Write address size value answer ∷ writes_of accesses

-- the writes of a text to a port, one for each byte, all of them granted
abbrev pub writes_to : ℕ → List ℕ → List Access
writes_to port text = map (λ byte. Write port Byte byte true) text
