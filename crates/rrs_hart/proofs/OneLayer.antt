-- A word is one instruction of a layer at most.
use Rattle.std.proofs.Common.{◌≡◌, ℕ, ◌/◌, ◌^◌, ◌==◌, ◌⊎◌, inl, inr, if◌then◌else◌, Option, Some, None, refl, sym, subst, ap, ◌∙◌, lit<, arith}
use Rattle.std.proofs.lemmas.Option.{same_Some}
use Rattle.rrs_instruction.specs.declared.instruction_formats.IType.{IType}
use Rattle.rrs_instruction.specs.declared.instruction_formats.RType.{RType}
use Rattle.rrs_instruction.specs.Encodings.{Fields, R}
use Rattle.rrs_instruction.proofs.Places.{same_fields_of}
use Rattle.rrs_words.specs.declared.instructions.SystemRow.{SystemRow}
use Rattle.rrs_words.specs.declared.instructions.SystemRow.TheVariants.{FenceI}
use Rattle.rrs_words.specs.declared.atomics.AtomicRow.{AtomicRow}
use Rattle.rrs_words.specs.declared.atomics.AtomicRow.TheVariants.{LrW, ScW, AmoSwap, AmoAdd, AmoXor, AmoAnd, AmoOr, AmoMin, AmoMax, AmoMinu, AmoMaxu}
use Rattle.rrs_words.specs.declared.layers.LayerInstruction.{LayerInstruction}
use Rattle.rrs_words.specs.declared.layers.LayerInstruction.TheVariants.{System, Atomic, Bits}
use Rattle.rrs_words.specs.SystemInstructions.{IsSystem, system_table}
use Rattle.rrs_words.specs.AtomicInstructions.{IsAtomic, atomic_table}
use Rattle.rrs_words.specs.declared.bits.BitRow.{BitRow}
use Rattle.rrs_words.specs.BitInstructions.{IsBits}
use Rattle.rrs_words.specs.Layers.{IsOfLayer}
use Rattle.rrs_words.proofs.SystemRows.{opcode_of, system-unique}
use Rattle.rrs_words.proofs.AtomicPlaces.{atomic_places}
use Rattle.rrs_words.proofs.BitPlaces.{bits-unique, opcodes_of_bits}

-- the row with a funct5
abbrev row_at : ℕ → Option AtomicRow
row_at n =
    if n == 2 then Some LrW
    else (if n == 3 then Some ScW
    else (if n == 1 then Some AmoSwap
    else (if n == 0 then Some AmoAdd
    else (if n == 4 then Some AmoXor
    else (if n == 12 then Some AmoAnd
    else (if n == 8 then Some AmoOr
    else (if n == 16 then Some AmoMin
    else (if n == 20 then Some AmoMax
    else (if n == 24 then Some AmoMinu
    else (if n == 28 then Some AmoMaxu else None))))))))))

row_at-is : (row : AtomicRow) → row_at (atomic_table row).funct5 ≡ Some row
row_at-is LrW = refl
row_at-is ScW = refl
row_at-is AmoSwap = refl
row_at-is AmoAdd = refl
row_at-is AmoXor = refl
row_at-is AmoAnd = refl
row_at-is AmoOr = refl
row_at-is AmoMin = refl
row_at-is AmoMax = refl
row_at-is AmoMinu = refl
row_at-is AmoMaxu = refl

-- the fields in a format R
abbrev fields_in_R : RType → Fields → RType
fields_in_R other (R f) = f
fields_in_R other _ = other

pub atomic-unique : (w : ℕ) (row row' : AtomicRow) (f f' : RType) → IsAtomic w row f → IsAtomic w row' f' → (row ≡ row') × (f ≡ f')
atomic-unique w row row' f f' is is' =
    let fields = same_fields_of w 0x2f (R f) (R f') (lit< tt) refl is.in_range is'.in_range is.encoded is'.encoded in
    let same : f ≡ f' = ap (fields_in_R f) fields in
    let numbers = sym is.funct5 ∙ ap (λ (x : RType). x.funct7 / 2 ^ 2) same ∙ is'.funct5 in
    (same_Some _ _ (sym (row_at-is row) ∙ ap row_at numbers ∙ row_at-is row'), same)

-- the opcode tells them from the system instructions
other_opcode : (row : SystemRow) → (system_table row).opcode ≡ 0x2f → ⊥
other_opcode FenceI same = omega (arith, same)
other_opcode _ same = omega (arith, same)

pub never_both : (w : ℕ) (row : AtomicRow) (row' : SystemRow) (f : RType) (f' : IType) → IsAtomic w row f → IsSystem w row' f' → ⊥
never_both w row row' f f' is is' = other_opcode row' (sym (opcode_of w row' f' is') ∙ (atomic_places w row f is).0)

-- and those of Zba to Zicond from both
no_system_opcode : (row : SystemRow) → ((system_table row).opcode ≡ 0x33) ⊎ ((system_table row).opcode ≡ 0x13) → ⊥
no_system_opcode FenceI (inl same) = omega (arith, same)
no_system_opcode FenceI (inr same) = omega (arith, same)
no_system_opcode _ (inl same) = omega (arith, same)
no_system_opcode _ (inr same) = omega (arith, same)

no_atomic_opcode : (n : ℕ) → (n ≡ 0x33) ⊎ (n ≡ 0x13) → n ≡ 0x2f → ⊥
no_atomic_opcode n (inl is) same = omega (arith, is, same)
no_atomic_opcode n (inr is) same = omega (arith, is, same)

pub never_bits : (w : ℕ) (row : BitRow) (row' : SystemRow) (f : RType) (f' : IType) → IsBits w row f → IsSystem w row' f' → ⊥
never_bits w row row' f f' is is' =
    no_system_opcode row' (subst (λ n. (n ≡ 0x33) ⊎ (n ≡ 0x13)) (opcode_of w row' f' is') (opcodes_of_bits w row f is))

never_atomic : (w : ℕ) (row : BitRow) (row' : AtomicRow) (f f' : RType) → IsBits w row f → IsAtomic w row' f' → ⊥
never_atomic w row row' f f' is is' = no_atomic_opcode _ (opcodes_of_bits w row f is) (atomic_places w row' f' is').0

pub one_layer : (w : ℕ) (i j : LayerInstruction) → IsOfLayer w i → IsOfLayer w j → i ≡ j
one_layer w (System i) (System j) is is' =
    let same = system-unique w i.row j.row i.fields j.fields is is' in
    λ k. System (record { row = same.0 k; fields = same.1 k })
one_layer w (System i) (Atomic j) is is' = absurd (never_both w j.row i.row j.fields i.fields is' is)
one_layer w (Atomic i) (System j) is is' = absurd (never_both w i.row j.row i.fields j.fields is is')
one_layer w (Atomic i) (Atomic j) is is' =
    let same = atomic-unique w i.row j.row i.fields j.fields is is' in
    λ k. Atomic (record { row = same.0 k; fields = same.1 k })
one_layer w (System i) (Bits j) is is' = absurd (never_bits w j.row i.row j.fields i.fields is' is)
one_layer w (Bits i) (System j) is is' = absurd (never_bits w i.row j.row i.fields j.fields is is')
one_layer w (Atomic i) (Bits j) is is' = absurd (never_atomic w j.row i.row j.fields i.fields is' is)
one_layer w (Bits i) (Atomic j) is is' = absurd (never_atomic w i.row j.row i.fields j.fields is is')
one_layer w (Bits i) (Bits j) is is' =
    let same = bits-unique w i.row j.row i.fields j.fields is is' in
    λ k. Bits (record { row = same.0 k; fields = same.1 k })
