-- A load of bytes that are lent, which ends after the last address.
use Rattle.std.proofs.Common.{◌≡◌, ◌⊎◌, ℕ, ◌+◌, ◌^◌, ◌<◌, Bool, false, List, [], ◌∷◌, ◌++◌, length, Some, Err, inl, ap, subst, arith}
use Rattle.std.proofs.lemmas.List.{length-append}
use Rattle.rrs_memory.specs.declared.memories.load.LoadFault.{LoadFault}
use Rattle.rrs_memory.specs.declared.memories.load.LoadFault.TheVariants.{EndOfAddresses}
use Rattle.rrs_memory.specs.Bytes.{ByteMap}
use Rattle.rrs_memory.specs.Loading.{Loads}

ends_there : (all rest : List ℕ) (old new : ByteMap) (writable : ℕ → Bool) (start : ℕ)
    → Loads (Some all) (Some rest) old new writable start (Err EndOfAddresses)
    → (k : ℕ) × (k < length all) × ((start + k ≡ 2 ^ 32) ⊎ (writable (start + k) ≡ false))
ends_there all rest old new writable start loads =
    let byte : ℕ = loads.answered.1.0 in
    let whole : length all ≡ length ((loads.input ++ byte ∷ []) ++ rest) = ap length loads.answered.1.1 in
    let parts : length ((loads.input ++ byte ∷ []) ++ rest) ≡ length (loads.input ++ byte ∷ []) + length rest =
    length-append (loads.input ++ byte ∷ []) rest in
    let more : length (loads.input ++ byte ∷ []) ≡ length loads.input + 1 = length-append loads.input (byte ∷ []) in
    let behind : length loads.input < length all = omega (arith, whole, parts, more) in
    (length loads.input, behind, inl loads.answered.0)

pub ends_past : (all rest : List ℕ) (old new : ByteMap) (writable : ℕ → Bool) (start : ℕ)
    (fault : LoadFault) → fault ≡ EndOfAddresses
    → Loads (Some all) (Some rest) old new writable start (Err fault)
    → (k : ℕ) × (k < length all) × ((start + k ≡ 2 ^ 32) ⊎ (writable (start + k) ≡ false))
ends_past all rest old new writable start fault is loads =
    ends_there all rest old new writable start
    (subst (λ f. Loads (Some all) (Some rest) old new writable start (Err f)) is loads)
