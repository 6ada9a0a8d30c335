-- A statement after its first label.
use Rattle.std.proofs.Common.{◌≡◌, ℕ, suc, List, Some, ap}
use Rattle.std.specs.Option.{option_map_or}
use Rattle.rrs_asm_macros.specs.Scanning.{behind_so_many, first_label}

pub one_label : (most : ℕ) (code name others : List ℕ) → first_label code ≡ Some (name, others)
    → behind_so_many (suc most) code ≡ behind_so_many most others
one_label most code name others e = ap (λ found. option_map_or (λ label. behind_so_many most label.1) found code) e
