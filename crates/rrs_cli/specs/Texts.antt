-- How numbers and the lines of a run are printed. Each line ends with a line feed, which is 10.
use Rattle.std.specs.Prelude.{ℕ, zero, suc, List, [], ◌∷◌, ◌++◌, codes, Option, Some, None}
use Rattle.std.specs.Fmt.{decimal}
use Rattle.rrs_lib.specs.declared.instruction_executor.InstructionException.{InstructionException}
use Rattle.rrs_lib.specs.Machine.{State, reg}
use Rattle.rrs_lib.specs.Texts.{hexadecimal}
use Rattle.rrs_lib.specs.FaultTexts.{exception_text}

-- the line of an instruction, with its address
abbrev pub instruction_line : ℕ → List ℕ → List ℕ
instruction_line pc text = codes "0x" ++ (hexadecimal 8 pc ++ (codes ": " ++ (text ++ 10 ∷ [])))

-- why a run ended: its limit, or an exception
abbrev pub reason_text : Option InstructionException → List ℕ
reason_text None = codes "end: limit"
reason_text (Some exception) = codes "end: " ++ exception_text exception

-- how many steps were Ok, at the end of a line
abbrev pub steps_text : ℕ → List ℕ
steps_text steps = codes ", steps " ++ (decimal steps ++ 10 ∷ [])

-- the line of how a run ended, after so many steps that were Ok
abbrev pub end_line : ℕ → Option InstructionException → List ℕ
end_line steps exception = reason_text exception ++ steps_text steps

-- the line of register r
abbrev pub register_line : State → ℕ → List ℕ
register_line s r =
    codes "x" ++ (decimal r ++ (codes " 0x" ++ (hexadecimal 8 (reg s r) ++ 10 ∷ [])))

-- the lines of the first n registers
abbrev pub register_lines : State → ℕ → List ℕ
register_lines s zero = []
register_lines s (suc n) = register_lines s n ++ register_line s n

-- the line of the program counter
abbrev pub pc_line : ℕ → List ℕ
pc_line pc = codes "pc 0x" ++ (hexadecimal 8 pc ++ 10 ∷ [])

-- the lines of all registers and of the program counter
abbrev pub hart_lines : State → List ℕ
hart_lines s = register_lines s 32 ++ pc_line s.pc

-- how a run ended, and the registers that it left
abbrev pub ending_lines : ℕ → Option InstructionException → State → List ℕ
ending_lines steps exception s = end_line steps exception ++ hart_lines s
