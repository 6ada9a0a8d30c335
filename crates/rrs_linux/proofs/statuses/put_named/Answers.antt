use Rattle.std.proofs.Common.{◌≡◌, ℕ, Bool, List, [], ◌∷◌, Option, None, Some, refl, sym, subst}
use Rattle.rrs_lib.specs.declared.MemAccessSize.{MemAccessSize}
use Rattle.rrs_lib.specs.declared.MemAccessSize.TheVariants.{Byte}
use Rattle.rrs_lib.specs.Bytes.{ByteMap}
use Rattle.rrs_lib.specs.AccessLists.{Read}
use Rattle.rrs_fast.specs.Serving.{MakesSome}
use Rattle.rrs_linux.specs.declared.statuses.Lookup.{Lookup}
use Rattle.rrs_linux.specs.Statuses.{PutsBytes, PutsNamed, IsNamed, HasFailed, failed}
use Rattle.rrs_linux.proofs.Written.{byte_read}
use Rattle.rrs_linux.proofs.statuses.put_named.Goals as goal

module _ {M : Type 0} {reads : M → ℕ → MemAccessSize → M → Option ℕ → Type 0}
    {writes : M → ℕ → MemAccessSize → ℕ → M → Bool → Type 0} {writable : ℕ → Bool}
    {bytes mid_bytes : ByteMap} {lookup : Lookup} {a answer : ℕ} {whole : List ℕ} {m0 m1 : M} where
  -- a path names no stream
  none_named : (first : Option ℕ) → first ≡ bytes lookup.path → Some answer ≡ failed first lookup
      → mid_bytes ≡ bytes → reads m0 lookup.path Byte m1 first
      → MakesSome reads writes (λ xs. PutsNamed writable bytes mid_bytes lookup a whole xs answer) m0 m1
  none_named first there fails kept did = record {
    accesses = Read lookup.path Byte (bytes lookup.path) ∷ [];
    these = HasFailed (sym (subst (λ o. Some answer ≡ failed o lookup) there fails)) kept refl;
    made = (m1, subst (λ o. reads m0 lookup.path Byte m1 o) there did, refl);
  }

  -- it names one, and bytes are put
  one_named : {mid_writable : ℕ → Bool} {bytes' : ByteMap} {m2 : M} (first : Option ℕ) → first ≡ bytes lookup.path → None ≡ failed first lookup
      → mid_bytes ≡ bytes → mid_writable ≡ writable → reads m0 lookup.path Byte m1 first
      → MakesSome reads writes (λ xs. PutsBytes mid_writable mid_bytes bytes' a whole xs answer) m1 m2
      → MakesSome reads writes (λ xs. PutsNamed writable bytes bytes' lookup a whole xs answer) m0 m2
  one_named {mid_writable = mid_writable} {bytes' = bytes'} first there names kept kept_too did put = record {
    accesses = Read lookup.path Byte (bytes lookup.path) ∷ put.accesses;
    these = IsNamed put.accesses (sym (subst (λ o. None ≡ failed o lookup) there names))
        (subst (λ w. PutsBytes w bytes bytes' a whole put.accesses answer) kept_too
        (subst (λ f. PutsBytes mid_writable f bytes' a whole put.accesses answer) kept put.these)) refl;
    made = (m1, subst (λ o. reads m0 lookup.path Byte m1 o) there did, put.made);
  }

pub returns-in-Some-clause-put : goal.returns-in-Some-clause-put
returns-in-Some-clause-put g c =
    let read = c.read_mem-first.ensures in
    let bytes = g.M.Memory.bytes c.args.memory.now in
    none_named c.read_mem-first.result (byte_read bytes bytes _ _ refl read.laws.value) c.in-Some.ensures
    read.laws.bytes_kept read.did

pub returns-in-None-clause-put : goal.returns-in-None-clause-put
returns-in-None-clause-put g c =
    let read = c.read_mem-first.ensures in
    let bytes = g.M.Memory.bytes c.args.memory.now in
    one_named c.read_mem-first.result (byte_read bytes bytes _ _ refl read.laws.value) c.in-None.ensures
    read.laws.bytes_kept read.laws.writable_kept read.did c.put_bytes.ensures.put
