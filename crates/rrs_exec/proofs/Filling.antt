-- The segments of a file are written, and then a stack above them.
use Rattle.std.proofs.Common.{◌≡◌, ◌⊎◌, ℕ, ◌+◌, ◌^◌, ◌<◌, ◌≤◌, Bool, false, List, [], ◌∷◌, ◌++◌, length, slice_index, Some, inl, inr, refl, sym, ap, subst, ◌∙◌, arith, append-nil}
use Rattle.rrs_memory.specs.Bytes.{ByteMap}
use Rattle.rrs_memory.specs.Loading.{Loaded}
use Rattle.rrs_elf.specs.Headers.{e_phnum, segment_start}
use Rattle.rrs_elf.specs.declared.program_headers.Addresses.{Addresses}
use Rattle.rrs_elf.specs.Loading.{Stands, loaded_size}
use Rattle.rrs_exec.specs.Images.{Filled, IsRefusal}
use Rattle.rrs_exec.specs.declared.image.ImageError.TheVariants.{Refused}
use Rattle.std.proofs.lemmas.List.{length-append}

pub filled_by : (at : Addresses) (file : List ℕ) (sp : ℕ) (stack input rest : List ℕ) (old mid new : ByteMap) (writable above : ℕ → Bool)
    → Stands at file old mid writable (e_phnum file) 0 → Loaded mid new above sp input
    → stack ≡ input ++ rest → rest ≡ []
    → ((i j : ℕ) → i < e_phnum file → j < loaded_size file i → segment_start at file i + j < sp)
    → Filled at file sp stack old new
filled_by at file sp stack input rest old mid new writable above stands loaded all none below =
    let same : input ≡ stack = sym (all ∙ ap (λ r. input ++ r) none ∙ append-nil input) in
    record {
      segments = λ i j numbered within.
          loaded.others (segment_start at file i + j) (inl (below i j numbered within)) ∙ stands.segments i j numbered within;
      stack_there = subst (λ bytes. (i : ℕ) → i < length bytes → new (sp + i) ≡ Some (slice_index bytes i)) same loaded.loaded;
      others = λ a apart outside.
          let out : (a < sp) ⊎ (sp + length input ≤ a) = subst (λ bytes. (a < sp) ⊎ (sp + length bytes ≤ a)) (sym same) outside in
          loaded.others a out ∙ stands.others a apart (λ j none. absurd (omega (arith, none)));
    }

-- a byte more was read of the stack
one_more : (stack input rest : List ℕ) (byte : ℕ) → stack ≡ (input ++ byte ∷ []) ++ rest → length input < length stack
one_more stack input rest byte all =
    let whole = length-append (input ++ byte ∷ []) rest in
    let part = length-append input (byte ∷ []) in
    omega (arith, ap length all, whole, part)

pub stack_refused : (at : Addresses) (file : List ℕ) (sp a : ℕ) (stack input rest : List ℕ) (byte : ℕ) (writable above : ℕ → Bool)
    → above ≡ writable → a ≡ sp + length input → above a ≡ false → stack ≡ (input ++ byte ∷ []) ++ rest
    → IsRefusal at file sp (length stack) writable (Refused a)
stack_refused at file sp a stack input rest byte writable above same here is all =
    let few = one_more stack input rest byte all in
    inl (ap (λ w. w a) (sym same) ∙ is, inr (omega (arith, here), omega (arith, here, few)))

pub stack_passes : (at : Addresses) (file : List ℕ) (sp : ℕ) (stack input rest : List ℕ) (byte : ℕ) (writable : ℕ → Bool)
    → sp + length input ≡ 2 ^ 32 → stack ≡ (input ++ byte ∷ []) ++ rest
    → IsRefusal at file sp (length stack) writable (Refused sp)
stack_passes at file sp stack input rest byte writable full all =
    let few = one_more stack input rest byte all in
    inr (refl, omega (arith, full, few))
