-- The mistakes that are told are from 1 to 20.
use Rattle.std.proofs.Common.{◌≡◌, ◌≤◌, ℕ, List, length, subst, sym}
use Rattle.rrs_asm_macros.specs.Expanding.{AreThese, AreTold}
use Rattle.rrs_asm_macros.specs.declared.errors.MacroError.{MacroError}
use Rattle.rrs_asm_macros.specs.declared.errors.MacroFault.{MacroFault}

pub told_within : {A : Type 0} (told : List MacroError) (fault : MacroFault A)
    → AreThese told fault → 1 ≤ length told → length told ≤ 20 → AreTold fault
told_within told (MacroFault.Mistakes mistakes) same some most =
    subst (λ ms. (1 ≤ length ms) × (length ms ≤ 20)) (sym same) (some, most)
told_within told MacroFault.OutOfMemory same some most = tt
