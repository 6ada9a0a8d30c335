-- What is printed of an error of a run, and what an error says of the reader and of the output.
use Rattle.std.specs.Prelude.{◌≡◌, ◌⊎◌, ℕ, ◌≤◌, List, length, codes, Option, Err}
use Rattle.std.specs.Io.KnownBytes.{Consumes, Keeps}
use Rattle.std.specs.declared.io.Error.{Error}
use Rattle.rrs_cli.specs.declared.fault.RunFault.{RunFault}
use Rattle.rrs_cli.specs.declared.fault.RunFault.TheVariants.{OutOfMemory, Reader, Refused, Output}
use Rattle.rrs_lib.specs.declared.memories.LoadFault.TheVariants as LoadFault
use Rattle.rrs_lib.specs.LoadTexts.{load_text}
use Rattle.rrs_lib.specs.Bytes.{ByteMap}
use Rattle.rrs_lib.specs.Machine.{State}
use Rattle.rrs_lib.specs.VecBytes.{bytes_of_words, lies_in_words}
use Rattle.rrs_lib.specs.Loading.{Loads}
use Rattle.rrs_cli.specs.Printed.{AppendsLines, IsBeginning, PrintsOfRun, zero_words}

-- the text of an error: those of a load are the loader's, but that of a failed read names no error,
-- and so it is given here again
abbrev pub fault_text : RunFault → List ℕ
fault_text OutOfMemory = codes "out of memory"
fault_text Reader = codes "Could not read byte"
fault_text (Refused address) = load_text (LoadFault.Refused address)
fault_text Output = codes "cannot write output"

-- What stops a load into so many zero words, by the bytes of the reader before and after it: no
-- memory, and nothing is read; or what the loader says of the first byte that it could not read, or
-- write.
abbrev pub StopsLoadInto : ℕ → Option (List ℕ) → Option (List ℕ) → RunFault → Type 0
StopsLoadInto words input rest OutOfMemory = Keeps input rest
StopsLoadInto words input rest Reader =
    (error : Error) × (bytes : ByteMap) × Loads input rest (bytes_of_words (zero_words words)) bytes
    (lies_in_words (zero_words words)) 0 (Err (LoadFault.Reader error))
StopsLoadInto words input rest (Refused a) =
    (bytes : ByteMap) × Loads input rest (bytes_of_words (zero_words words)) bytes
    (lies_in_words (zero_words words)) 0 (Err (LoadFault.Refused a))
StopsLoadInto words input rest Output = ⊥

-- What stops a load into 16,384 words, by the reader's bytes before and after it, where these are
-- known. A read failed, at the end of the memory at the latest. Or one byte more was read than
-- there are addresses, and the byte for address 65536 was refused.
abbrev pub StopsLoad : Option (List ℕ) → Option (List ℕ) → RunFault → Type 0
StopsLoad input rest OutOfMemory = ⊥
StopsLoad input rest Reader = (read : List ℕ) × Consumes input rest read × (length read ≤ 65536)
StopsLoad input rest (Refused a) =
    (a ≡ 65536) × ((read : List ℕ) × Consumes input rest read × (length read ≡ 65537))
StopsLoad input rest Output = ⊥

-- What stops printing, by the output's bytes before and after it, where these are known. Out of
-- memory, nothing but the lines that were done is printed. After a write that failed, a beginning
-- of those that were to be written is there.
abbrev pub StopsPrinting : (List ℕ → Type 0) → (List ℕ → Type 0)
    → Option (List ℕ) → Option (List ℕ) → RunFault → Type 0
StopsPrinting AreDone AreToWrite before after OutOfMemory = AppendsLines AreDone before after
StopsPrinting AreDone AreToWrite before after Reader = ⊥
StopsPrinting AreDone AreToWrite before after (Refused a) = ⊥
StopsPrinting AreDone AreToWrite before after Output =
    AppendsLines (IsBeginning AreToWrite) before after

-- What stops a run, by the bytes of the reader and of the output before and after it. Where the
-- memory can't be made, nothing is read or printed, and where the load was stopped nothing is
-- printed. Otherwise the reader was read to its end: out of memory then, for the text of how the
-- run ended, just what is printed while the run is made is there, and after a write that failed a
-- beginning of the account.
abbrev pub StopsRunOf : (State → List ℕ → Type 0) → (State → List ℕ → Type 0)
    → Option (List ℕ) → Option (List ℕ)
    → Option (List ℕ) → Option (List ℕ) → RunFault → Type 0
StopsRunOf AreMade ArePart input rest before after OutOfMemory =
    (Keeps input rest × Keeps before after) ⊎ PrintsOfRun AreMade input rest before after
StopsRunOf AreMade ArePart input rest before after Reader =
    StopsLoad input rest Reader × Keeps before after
StopsRunOf AreMade ArePart input rest before after (Refused a) =
    StopsLoad input rest (Refused a) × Keeps before after
StopsRunOf AreMade ArePart input rest before after Output =
    PrintsOfRun (λ s. IsBeginning (ArePart s)) input rest before after
