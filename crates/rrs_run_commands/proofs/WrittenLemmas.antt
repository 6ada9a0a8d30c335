-- Files that the host tells apart have paths that are apart.
use Rattle.std.proofs.Common.{ℕ, ◌≡◌, ◌≢◌, List, Option, Some, None, IfSome, sym, ◌∙◌, inl}
use Rattle.rrs_run_commands.specs.declared.places.NamedFiles.{NamedFiles}
use Rattle.rrs_run_commands.specs.declared.places.Told.{Told}
use Rattle.rrs_run_commands.specs.Requests.{IsUnread, Wanted, WritesApart}
use Rattle.rrs_run_commands.specs.WrittenFiles.{AreApart, AreNamedBy, IsApart, IsNamed, path_in}

-- a file that is none which may be named has another path
pub has_other_path : (named : Option Told) (file : Told) → (IsNamed named file → ⊥)
    → path_in named ≡ Some file.path.now → ⊥
has_other_path None file other same = cc
has_other_path (Some found) file other same = other (inl cc)

-- a file that is none of those that are read has none of their paths
pub has_unread_path : (wanted : Wanted) (files : NamedFiles) → AreNamedBy wanted files
    → (written : Option Told) → IsApart files written
    → (words : Option (List ℕ)) → path_in written ≡ words → IsUnread wanted words
has_unread_path wanted files named None apart words is = λ path at. absurd cc
has_unread_path wanted files named (Some file) apart words is = λ path at. (
  (λ e. has_other_path files.program file apart.0 (named.program_named ∙ e ∙ sym (is ∙ at))),
  (λ e. has_other_path files.symbols file apart.1 (named.symbols_named ∙ e ∙ sym (is ∙ at))),
  (λ e. has_other_path files.tree file apart.2 (named.tree_named ∙ e ∙ sym (is ∙ at))),
  (λ e. has_other_path files.input file apart.3 (named.input_named ∙ e ∙ sym (is ∙ at))),
)

-- nor has a file that is not named for another option the path that is
pub has_path_once : (written named : Option Told) → IfSome written (λ file. IsNamed named file → ⊥)
    → (words others : Option (List ℕ)) → path_in written ≡ words → path_in named ≡ others
    → (path : List ℕ) → words ≡ Some path → others ≢ Some path
has_path_once None named apart words others is are path at = absurd cc
has_path_once (Some file) named apart words others is are path at =
    λ e. has_other_path named file apart (are ∙ e ∙ sym (is ∙ at))

pub written_apart : (wanted : Wanted) (files : NamedFiles) → AreNamedBy wanted files → AreApart files
    → WritesApart wanted
written_apart wanted files named apart = record {
  output_apart = has_unread_path wanted files named files.output apart.output_apart wanted.output
      named.output_named;
  callgrind_apart = has_unread_path wanted files named files.callgrind apart.callgrind_apart
      wanted.callgrind named.callgrind_named;
  not_twice = has_path_once files.output files.callgrind apart.not_twice wanted.output
      wanted.callgrind named.output_named named.callgrind_named;
}

-- what is not apart of one file is not of all
pub output_not_apart : (files : NamedFiles) → (IsApart files files.output → ⊥) → AreApart files → ⊥
output_not_apart files refused apart = refused apart.output_apart

pub callgrind_not_apart : (files : NamedFiles) → (IsApart files files.callgrind → ⊥)
    → AreApart files → ⊥
callgrind_not_apart files refused apart = refused apart.callgrind_apart
