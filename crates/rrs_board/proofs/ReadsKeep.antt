-- A fetch leaves RAM as it was.
use Rattle.std.proofs.Common.{◌≡◌, ℕ, ◌%◌, ◌==◌, List, [], ◌∷◌, Bool, true, false, if◌then◌else◌, Option, Some, None, ap, ◌∙◌}
use Rattle.rrs_memory.specs.Bytes.{ByteMap, little_endian}
use Rattle.rrs_lib.specs.Accesses.{Access, Read, Write, Makes}
use Rattle.rrs_words.specs.declared.csrs.HartProfile.{HartProfile}
use Rattle.rrs_hart.specs.Halves.{upper_reads}
use Rattle.rrs_hart.specs.Harts.{fetch_reads_in}
use Rattle.rrs_board.specs.declared.memory.BoardMemory.{BoardMemory}
use Rattle.rrs_board.specs.Registers.{BoardReads, BoardWrites}

abbrev AreReads : List Access → Type 0
AreReads [] = Unit {0}
AreReads (Read a size answer ∷ xs) = AreReads xs
AreReads (Write a size value answer ∷ xs) = ⊥

reads_keep : (xs : List Access) (a c : BoardMemory) → AreReads xs → Makes BoardReads BoardWrites xs a c → c.ram ≡ a.ram
reads_keep [] a c reads made = ap (λ (m : BoardMemory). m.ram) made
reads_keep (Read p size answer ∷ xs) a c reads (mid, did, rest) = reads_keep xs mid c reads rest ∙ did.ram_kept
reads_keep (Write p size value answer ∷ xs) a c reads made = absurd reads

reads_if : (b : Bool) (xs ys : List Access) → AreReads xs → AreReads ys → AreReads (if b then xs else ys)
reads_if true xs ys p q = p
reads_if false xs ys p q = q

upper : (bytes : ByteMap) (pc : ℕ) (o : Option ℕ) → AreReads (upper_reads bytes pc o)
upper bytes pc None = tt
upper bytes pc (Some low) = reads_if (low % 4 == 3) _ [] tt tt

pub fetch_keeps : (p : HartProfile) (bytes : ByteMap) (pc : ℕ) (a c : BoardMemory) → Makes BoardReads BoardWrites (fetch_reads_in p bytes pc) a c
    → c.ram ≡ a.ram
fetch_keeps p bytes pc a c made =
    reads_keep (fetch_reads_in p bytes pc) a c
    (reads_if p.compressed _ _ (reads_if (pc % 2 == 0) _ [] (upper bytes pc (little_endian bytes pc 2)) tt) (reads_if (pc % 4 == 0) _ [] tt tt)) made
