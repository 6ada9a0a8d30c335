-- The name of an architecture, as gcc's -march takes it: that of RV32IM, then A and C, and behind
-- these extensions in any order, each once at most.
use Rattle.std.specs.Prelude.{ℕ, ◌≡◌, List, [], ◌∷◌, ◌++◌, codes, Bool, true, false, if◌then◌else◌, Option, Some, None}
use Rattle.rrs_words.specs.declared.csrs.HartProfile.{HartProfile}
use Rattle.rrs_run_commands.specs.declared.architectures.Extension.{Extension}
use Rattle.rrs_run_commands.specs.declared.architectures.Extension.TheVariants.{Zicsr, Zifencei, Zba, Zbb, Zbs, Zbc, Zbkb, Zicond}
use Rattle.rrs_run_commands.specs.declared.architectures.Extensions.{Extensions}

-- ---- extensions, each behind an underscore

abbrev pub named : Extension → List ℕ
named Zicsr = codes "_zicsr"
named Zifencei = codes "_zifencei"
named Zba = codes "_zba"
named Zbb = codes "_zbb"
named Zbs = codes "_zbs"
named Zbc = codes "_zbc"
named Zbkb = codes "_zbkb"
named Zicond = codes "_zicond"

-- several, one behind the other
abbrev pub all_named : List Extension → List ℕ
all_named [] = []
all_named (e ∷ es) = named e ++ all_named es

-- ---- which of them there are

abbrev pub no_extensions : Extensions
no_extensions = record {
  zicsr = false;
  fence_i = false;
  zba = false;
  zbb = false;
  zbs = false;
  zbc = false;
  zbkb = false;
  zicond = false;
}

-- one more, which is not among them
abbrev pub with_one : Extensions → Extension → Option Extensions
with_one x Zicsr = if x.zicsr then None else Some (record x { zicsr = true })
with_one x Zifencei = if x.fence_i then None else Some (record x { fence_i = true })
with_one x Zba = if x.zba then None else Some (record x { zba = true })
with_one x Zbb = if x.zbb then None else Some (record x { zbb = true })
with_one x Zbs = if x.zbs then None else Some (record x { zbs = true })
with_one x Zbc = if x.zbc then None else Some (record x { zbc = true })
with_one x Zbkb = if x.zbkb then None else Some (record x { zbkb = true })
with_one x Zicond = if x.zicond then None else Some (record x { zicond = true })

abbrev pub with_next : Option Extensions → Extension → Option Extensions
with_next None e = None
with_next (Some x) e = with_one x e

-- all of these, one by one
abbrev pub with_all : Option Extensions → List Extension → Option Extensions
with_all x [] = x
with_all x (e ∷ es) = with_all (with_next x e) es

-- ---- the hart

-- a letter, or none
abbrev pub letter : Bool → List ℕ → List ℕ
letter false name = []
letter true name = name

-- The hart with these alone carries misaligned accesses out. Zifencei is `fence.i`, and Zicsr adds
-- nothing to a process, which has no CSR.
abbrev pub march_hart : Bool → Bool → Extensions → HartProfile
march_hart atomics compressed x = record {
  atomics = atomics;
  fence_i = x.fence_i;
  misaligned = true;
  compressed = compressed;
  zba = x.zba;
  zbb = x.zbb;
  zbs = x.zbs;
  zbc = x.zbc;
  zbkb = x.zbkb;
  zicond = x.zicond;
}

-- the word is the name of the architecture of this hart
pub record IsMarch (word : List ℕ) (profile : HartProfile) : Type 0 where
  pub atomics : Bool
  pub compressed : Bool
  pub names : List Extension
  pub extensions : Extensions
  pub whole : word
      ≡ codes "rv32im"
      ++ (letter atomics (codes "a") ++ (letter compressed (codes "c") ++ all_named names))
  pub are : with_all (Some no_extensions) names ≡ Some extensions
  pub hart : profile ≡ march_hart atomics compressed extensions
