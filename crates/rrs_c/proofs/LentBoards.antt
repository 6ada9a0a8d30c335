-- Accesses of a board's memory over words that are lent: they are those of the words and the
-- devices, they leave the words lent, and a device that none of them notes is as it was.
use Rattle.std.proofs.Common.{◌≡◌, ℕ, ◌%◌, ◌==◌, ◌<◌, ◌≤◌, nat_lt, if◌then◌else◌, Bool, true, false, List, [], ◌∷◌, length, Option, Some, None, refl, sym, subst, ap, ◌∙◌, arith}
use Rattle.std.proofs.lemmas.Bool.Decides.{nat_tests}
use Rattle.std.proofs.lemmas.Bool.{OnTrue_at, OnTrue_from, OnFalse_at, OnFalse_from, cond_both}
use Rattle.rrs_memory.specs.declared.MemAccessSize.{MemAccessSize}
use Rattle.rrs_memory.specs.AccessLists.{Access, Read, Write, Makes, MakesExactly}
use Rattle.rrs_memory.specs.Bytes.{ByteMap, width, little_endian, all_writable, store}
use Rattle.rrs_memory.specs.declared.memories.slice.SliceMemory.{SliceMemory}
use Rattle.rrs_memory.specs.SliceBytes.{SliceWrites, bytes_from}
use Rattle.rrs_words.specs.declared.csrs.HartProfile.{HartProfile}
use Rattle.rrs_hart.specs.Halves.{upper_reads}
use Rattle.rrs_hart.specs.Harts.{fetch_reads_in}
use Rattle.rrs_machine.specs.declared.csrs.CsrFile.{CsrFile}
use Rattle.rrs_machine.specs.declared.machine.MachineAnswer.{MachineAnswer}
use Rattle.rrs_machine.specs.declared.machine.MachineAnswer.TheVariants.{Retired, Waiting, Raised, Interrupted}
use Rattle.rrs_board.specs.declared.effects.BoardEvent.{BoardEvent}
use Rattle.rrs_board.specs.declared.devices.Devices.{Devices}
use Rattle.rrs_board.specs.declared.devices.DeviceAccess.{DeviceAccess}
use Rattle.rrs_board.specs.Registers.{ram_start, register, start_of, device_writable, device_reads, DeviceWrites}
use Rattle.rrs_board.proofs.RegisterBytes.{nothing_writable}
use Rattle.rrs_board.specs.Clint.{can_wake}
use Rattle.rrs_board.specs.Effects.{answered_by, answered, ticked, waited, settled}
use Rattle.rrs_c.specs.declared.board.RrsBoard.{RrsBoard}
use Rattle.rrs_c.specs.declared.lent_board.LentMemory.{LentMemory}
use Rattle.rrs_c.specs.Boards.{WritesWords, LentReads, LentWrites, LentState, board_in_c, LentRun}
use Rattle.rrs_c.specs.LentBoards.{MemoryReads, MemoryWrites, seen_ram, AreSettled}

-- ---- the words stay lent

pub made_lent : (accesses : List Access) (old new : LentMemory) → Makes MemoryReads MemoryWrites accesses old new
    → new.words.ghost_name ≡ old.words.ghost_name
made_lent [] old new made = ap (λ m. m.words.ghost_name) made
made_lent (Read a size answer ∷ accesses) old new (mid, did, made) = made_lent accesses mid new made ∙ did.lent
made_lent (Write a size value answer ∷ accesses) old new (mid, did, made) = made_lent accesses mid new made ∙ did.lent

pub still_lent : (IsMeant : List Access → Type 0) (old new : LentMemory) → MakesExactly MemoryReads MemoryWrites IsMeant old new
    → new.words.ghost_name ≡ old.words.ghost_name
still_lent IsMeant old new exactly = made_lent exactly.accesses old new exactly.made

-- ---- a fetch leaves the words as they were

abbrev AreReads : List Access → Type 0
AreReads [] = Unit {0}
AreReads (Read a size answer ∷ xs) = AreReads xs
AreReads (Write a size value answer ∷ xs) = ⊥

reads_keep : (xs : List Access) (old new : LentMemory) → AreReads xs → Makes MemoryReads MemoryWrites xs old new → new.words.now ≡ old.words.now
reads_keep [] old new reads made = ap (λ (m : LentMemory). m.words.now) made
reads_keep (Read a size answer ∷ xs) old new reads (mid, did, rest) = reads_keep xs mid new reads rest ∙ did.did.words_kept
reads_keep (Write a size value answer ∷ xs) old new reads made = absurd reads

reads_if : (b : Bool) (xs ys : List Access) → AreReads xs → AreReads ys → AreReads (if b then xs else ys)
reads_if true xs ys p q = p
reads_if false xs ys p q = q

upper : (bytes : ByteMap) (pc : ℕ) (o : Option ℕ) → AreReads (upper_reads bytes pc o)
upper bytes pc None = tt
upper bytes pc (Some low) = reads_if (low % 4 == 3) _ [] tt tt

pub fetch_keeps : (p : HartProfile) (bytes : ByteMap) (pc : ℕ) (old new : LentMemory)
    → Makes MemoryReads MemoryWrites (fetch_reads_in p bytes pc) old new → new.words.now ≡ old.words.now
fetch_keeps p bytes pc old new made =
    reads_keep (fetch_reads_in p bytes pc) old new
    (reads_if p.compressed _ _ (reads_if (pc % 2 == 0) _ [] (upper bytes pc (little_endian bytes pc 2)) tt) (reads_if (pc % 4 == 0) _ [] tt tt)) made

-- ---- they are accesses of the words and the devices

-- a write to words from where RAM begins, which are then these
pub words_written : (old new : SliceMemory) (a : ℕ) (size : MemAccessSize) (value : ℕ) (answer : Bool) (words : List ℕ)
    → words ≡ new.words.now → old.base ≡ ram_start → SliceWrites old a size value new answer
    → WritesWords old.words.now a size value words answer
words_written old new a size value answer words is base did = record {
  written = OnTrue_from _ _ (λ t. ap (bytes_from ram_start) is
      ∙ subst (λ b. bytes_from b new.words.now ≡ store (bytes_from b old.words.now) a (width size) value) base
      (ap (λ b. bytes_from b new.words.now) (sym did.lent.same_base) ∙ OnTrue_at t did.written));
  refused = OnFalse_from _ _ (λ f. is ∙ ap (λ (m : SliceMemory). m.words.now) (OnFalse_at f did.refused));
  length_kept = ap length is ∙ did.lent.length_kept;
}

seen_made : (accesses : List Access) (old new : LentMemory)
    → Makes MemoryReads MemoryWrites accesses old new → Makes LentReads LentWrites accesses (seen_ram old) (seen_ram new)
seen_made [] old new made = ap seen_ram made
seen_made (Read a size answer ∷ accesses) old new (mid, did, made) = (seen_ram mid, did.did, seen_made accesses mid new made)
seen_made (Write a size value answer ∷ accesses) old new (mid, did, made) = (seen_ram mid, did.did, seen_made accesses mid new made)

pub seen_exactly : (IsMeant : List Access → Type 0) (old new : LentMemory) → MakesExactly MemoryReads MemoryWrites IsMeant old new
    → MakesExactly LentReads LentWrites IsMeant (seen_ram old) (seen_ram new)
seen_exactly IsMeant old new exactly = record {
  accesses = exactly.accesses;
  these = exactly.these;
  only = exactly.only;
  made = seen_made exactly.accesses old new exactly.made;
}

-- an address lies below RAM, or it does not
data Side (a : ℕ) : Type 0 where
  Below : a < ram_start → Side a
  Above : ram_start ≤ a → Side a

side_at : (a : ℕ) → Side a
side_at a = side (nat_lt a ram_start) refl
  where
    side : (b : Bool) → nat_lt a ram_start ≡ b → Side a
    side true is = Below (grind (arith, nat_tests))
    side false is = Above (grind (arith, nat_tests))

-- ---- devices that have nothing to answer are as they were

-- where no access is noted, these are those
abbrev Silent : Devices → Devices → Type 0
Silent old new = new.access ≡ None → new ≡ old

abbrev Holds : Option DeviceAccess → Type 0
Holds None = ⊥
Holds (Some x) = Unit {0}

some_access : {B : Type 0} (o : Option DeviceAccess) (x : DeviceAccess) → o ≡ Some x → o ≡ None → B
some_access o x is none = absurd (subst Holds (sym is ∙ none) tt)

read_device : (old new : Devices) (a : ℕ) (size : MemAccessSize) (answer : Option ℕ) → device_reads old a size new answer → Silent old new
read_device old new a size None did none = did
read_device old new a size (Some value) did none = some_access _ _ (ap (λ d. d.access) did) none

silent_read : (old new : LentMemory) (a : ℕ) (size : MemAccessSize) (answer : Option ℕ)
    → LentReads (seen_ram old) a size (seen_ram new) answer → Side a → Silent old.devices new.devices
silent_read old new a size answer did (Below below) = read_device old.devices new.devices a size answer (did.of_device below)
silent_read old new a size answer did (Above from) = λ none. did.of_ram from

-- a write to the devices
pub silent_write : (old new : Devices) (a : ℕ) (size : MemAccessSize) (value : ℕ) (answer : Bool) (word : Option ℕ)
    → register old (start_of a) ≡ word → a % width size ≡ 0
    → answer ≡ all_writable (device_writable old) a (width size)
    → DeviceWrites old a size value new answer → Silent old new
silent_write old new a size value answer None is aligned granted did =
    λ none. OnFalse_at (granted ∙ nothing_writable (register old) a size is aligned) did.refused
silent_write old new a size value false (Some word) is aligned granted did = λ none. OnFalse_at refl did.refused
silent_write old new a size value true (Some word) is aligned granted did =
    λ none. some_access _ _ (ap (λ d. d.access) (OnTrue_at refl did.written word is)) none

silent_made : (accesses : List Access) (old new : LentMemory) → Makes MemoryReads MemoryWrites accesses old new
    → Silent old.devices new.devices
silent_made [] old new made = λ none. ap (λ m. m.devices) made
silent_made (Read a size answer ∷ accesses) old new (mid, did, made) = λ none.
    let later = silent_made accesses mid new made none in
    later ∙ silent_read old mid a size answer did.did (side_at a) (sym (ap (λ d. d.access) later) ∙ none)
silent_made (Write a size value answer ∷ accesses) old new (mid, did, made) = λ none.
    let later = silent_made accesses mid new made none in
    later ∙ did.heard (sym (ap (λ d. d.access) later) ∙ none)

-- ---- the devices settle

-- what time does is not among what is settled
settled_later : (d : Devices) (time : ℕ) → AreSettled d → AreSettled (record d { time = time })
settled_later d time is = record { no_word = is.no_word; answered = is.answered; low = is.low; high = is.high }

settled_waited : (answer : MachineAnswer) (file : CsrFile) (d : Devices) → AreSettled d → AreSettled (waited answer file d)
settled_waited Waiting file d is = cond_both (can_wake file d.alarm) _ _ AreSettled (λ _. settled_later d _ is) (λ _. is)
settled_waited Retired file d is = is
settled_waited (Raised x) file d is = is
settled_waited (Interrupted x) file d is = is

settled_answered : (o : Option DeviceAccess) (old d : Devices) → d.access ≡ o → AreSettled old → Silent old d → AreSettled (answered_by o d)
settled_answered None old d is were silent = subst AreSettled (sym (silent is)) were
settled_answered (Some a) old d is were silent = record { no_word = refl; answered = refl; low = refl; high = refl }

-- after a step that exactly these accesses are of
pub settled_after : (IsMeant : List Access → Type 0) (old new : LentMemory) (answer : MachineAnswer) (file : CsrFile)
    → MakesExactly MemoryReads MemoryWrites IsMeant old new → AreSettled old.devices
    → AreSettled (settled answer file new.devices)
settled_after IsMeant old new answer file exactly were =
    settled_waited answer file (ticked answer (answered new.devices)) (settled_later (answered new.devices) _
    (settled_answered new.devices.access old.devices new.devices refl were (silent_made exactly.accesses old new exactly.made)))

-- ---- a run over the words is one of C's board

pub ran_in_c : (limit steps steps' : ℕ) (event event' : Option BoardEvent) (s s' t : LentState) (b : RrsBoard) (words words' : List ℕ)
    → s ≡ s' → steps' ≡ steps → event' ≡ event → board_in_c b words ≡ t → words' ≡ words
    → LentRun limit s steps event t → LentRun limit s' steps' event' (board_in_c b words')
ran_in_c limit steps steps' event event' s s' t b words words' lent same_steps same_event back same_words ran =
    let after : t ≡ board_in_c b words' = sym back ∙ ap (board_in_c b) (sym same_words) in
    subst (λ x. x) (λ i. LentRun limit (lent i) (sym same_steps i) (sym same_event i) (after i)) ran
