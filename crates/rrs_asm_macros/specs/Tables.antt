-- What a source has defined, and how much may still be read. GNU `as` reads macros without end;
-- here no more than 128 MiB are read: lines, each as often as it is read and with 28 bytes more,
-- statements of macros with 48 more, and for a call and a repetition 256 more.
use Rattle.std.specs.Prelude.{◌≡◌, ℕ, List, map, ◌+◌, ◌-◌, ◌<◌, ◌≤◌, Option, Some, unwrap_or}
use Rattle.std.specs.Char.{to_ascii_lowercase}
use Rattle.std.specs.BTreeMap.{get_by}
use Rattle.std.specs.Cmp.Lexicographic.{slice_cmp}
use Rattle.std.specs.Ordering.{nat_cmp}
use Rattle.rrs_asm_macros.specs.declared.symbols.Symbols.{Symbols}
use Rattle.rrs_asm_macros.specs.declared.errors.Halt.{Halt}
use Rattle.rrs_asm_macros.specs.declared.errors.MacroErrorKind.{MacroErrorKind}
use Rattle.rrs_asm_macros.specs.declared.tables.Macro.{Macro}
use Rattle.rrs_asm_macros.specs.declared.tables.Tables.{Tables}

-- So many bytes less may be read, or it is too much.
pub record Spends {A : Type 0} (old new : Tables A) (bytes left : ℕ) : Type 0 where
  pub fewer : bytes ≤ old.left → new.left ≡ old.left - bytes
  pub enough : bytes ≤ old.left → new.mistake ≡ old.mistake
  pub much : old.left < bytes → new.mistake ≡ Some (unwrap_or old.mistake
      (Halt.Slip (record { kind = MacroErrorKind.Much; left = left })))
  pub macros_kept : new.macros ≡ old.macros
  pub symbols_kept : new.symbols ≡ old.symbols
  pub calls_kept : new.calls ≡ old.calls

-- what a symbol is: its value, where it is known
abbrev pub symbol_named : {A : Type 0} → List ℕ → Symbols A → Option (Option ℕ)
symbol_named name symbols = get_by (λ key. slice_cmp nat_cmp name key.items) symbols.values

-- the macro with a name, in which capital and small letters are the same
abbrev pub macro_named : {A : Type 0} → List ℕ → Tables A → Option (Macro A)
macro_named name tables =
    get_by (λ key. slice_cmp nat_cmp (map to_ascii_lowercase name) key.items) tables.macros
