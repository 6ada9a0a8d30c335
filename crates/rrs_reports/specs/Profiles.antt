-- The profile of a run in Callgrind's format (Valgrind's user manual, "Callgrind Format
-- Specification"): lines of keys, among them `ob` for the file that the code is of and `fl` for its
-- source, which is `???` where it is not known; and lines of costs below these.
use Rattle.std.specs.Prelude.{◌≡◌, ℕ, List, ◌++◌, Option, IsOk, codes}
use Rattle.std.specs.Io.KnownBytes.{Appends}
use Rattle.rrs_reports.specs.declared.pieces.Pieces.{Pieces}
use Rattle.rrs_reports.specs.ShownNames.{shown_name}

-- Where no write has failed this text is written, and no write had failed before.
pub record Writes {W : Type 0} (contents : W → Option (List ℕ)) (old : Pieces W) (text : List ℕ)
    (new : Pieces W) : Type 0 where
  pub same_out : new.out.ghost_name ≡ old.out.ghost_name
  pub had_not_failed : IsOk new.written → IsOk old.written
  pub written : IsOk new.written → Appends (contents old.out.now) (contents new.out.now) text

-- the same of some text
abbrev pub WritesSome : {W : Type 0} → (W → Option (List ℕ)) → Pieces W → Pieces W → Type 0
WritesSome contents old new = (text : List ℕ) × Writes contents old text new

-- What a profile begins with: the program of a path is the file of the functions, whose source is
-- not known. A cost is one event, `Ir`, at the address of an instruction.
abbrev pub profile_head : List ℕ → List ℕ
profile_head path =
    codes "# callgrind format\nversion: 1\ncreator: rrs cover\n"
    ++ ((codes "cmd: " ++ (shown_name path ++ codes "\npositions: instr\nevents: Ir\n\n"))
    ++ (codes "ob=(1) " ++ (shown_name path ++ codes "\nfl=(1) ???\n")))
