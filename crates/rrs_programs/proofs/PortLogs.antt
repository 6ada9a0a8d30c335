-- What a list of accesses does to the log of a port in a space, where its writes are those of a text to the port.
use Rattle.std.proofs.Common.{◌≡◌, ℕ, suc, ◌+◌, ◌-◌, ◌%◌, ◌^◌, ◌<◌, ◌≤◌, List, [], ◌∷◌, ◌++◌, map, length, slice_index, slice_get, Option, Some, None, option_map, Bool, true, inl, inr, refl, sym, ap, subst, ◌∙◌, arith, append_assoc, append-nil, length-append, lt-ltb}
use Rattle.std.specs.Prelude.{vec_capacity}
use Rattle.std.proofs.lemmas.Bool.{cond-true}
use Rattle.std.proofs.lemmas.Option.{none-some, same_Some, slice_get-map}
use Rattle.rrs_lib.specs.declared.MemAccessSize.{MemAccessSize}
use Rattle.rrs_lib.specs.declared.MemAccessSize.TheVariants.{Byte}
use Rattle.rrs_lib.specs.Accesses.{Access, Read, Write, Does, Makes}
use Rattle.rrs_lib.specs.Spaces.{Region, Space, bounds, SpaceAccess}
use Rattle.rrs_lib.proofs.Regions.{true_serves, serves_cases}
use Rattle.rrs_programs.specs.declared.print_port.PrintPort.{PrintPort}
use Rattle.rrs_programs.specs.declared.print_port.RamOrPort.{RamOrPort}
use Rattle.rrs_programs.specs.declared.print_port.RamOrPort.TheVariants.{Ram, Port}
use Rattle.rrs_programs.specs.Ports.{part_reads, part_writes, Takes, TakesText, IsPortAt, has_room}
use Rattle.rrs_programs.specs.Printing.{writes_of, writes_to}

-- what a read and a write do to a space of such memories
abbrev pub space_reads : Space RamOrPort → ℕ → MemAccessSize → Space RamOrPort → Option ℕ → Type 0
space_reads old address size new answer = SpaceAccess address old new (λ before offset after. part_reads before offset size after answer)

abbrev pub space_writes : Space RamOrPort → ℕ → MemAccessSize → ℕ → Space RamOrPort → Bool → Type 0
space_writes old address size value new answer = SpaceAccess address old new (λ before offset after. part_writes before offset size value after answer)

-- ---- one access

-- a region after an access
abbrev After : List (Region RamOrPort) → ℕ → Region RamOrPort → Type 0
After regions i r = (region : Region RamOrPort) × (slice_get regions i ≡ Some region) × (bounds region ≡ bounds r)

after_from : (regions : List (Region RamOrPort)) (i : ℕ) (r : Region RamOrPort) (o : Option (Region RamOrPort)) → slice_get regions i ≡ o → option_map bounds o ≡ Some (bounds r) → After regions i r
after_from regions i r None e there = absurd (none-some _ there)
after_from regions i r (Some s) e there = (s, e, same_Some _ _ there)

region_after : (old new : List (Region RamOrPort)) (i : ℕ) (r : Region RamOrPort) → map bounds new ≡ map bounds old → slice_get old i ≡ Some r → After new i r
region_after old new i r kept stands =
    let there : option_map bounds (slice_get new i) ≡ Some (bounds r) = sym (slice_get-map bounds new i) ∙ ap (λ xs. slice_get xs i) kept ∙ slice_get-map bounds old i ∙ ap (option_map bounds) stands in
    after_from new i r (slice_get new i) refl there

-- a region of the same bounds is a port at the same address
port_of : (regions : List (Region RamOrPort)) (i address : ℕ) (before port : PrintPort) (old : List (Region RamOrPort)) (is : IsPortAt old i address before) (after : After regions i is.region) → after.0.memory ≡ Port port → IsPortAt regions i address port
port_of regions i address before port old is after memory = record {
  region = after.0;
  stands = after.1;
  is_port = memory;
  begins_there = ap (λ b. b.0) after.2 ∙ is.begins_there;
  has_addresses = let size : after.0.size ≡ is.region.size = ap (λ b. b.1) after.2 in omega (arith, size, is.has_addresses);
}

-- a read leaves the port
port_read : (old new : Space RamOrPort) (i address a : ℕ) (size : MemAccessSize) (answer : Option ℕ) (port : PrintPort) → IsPortAt old.regions i address port → space_reads old a size new answer → IsPortAt new.regions i address port
port_read old new i address a size answer port is did =
    let after = region_after old.regions new.regions i is.region did.regions_kept is.stands in
    elim (serves_cases is.region a) [
      | inl served ↦ port_of new.regions i address port port old.regions is after (did.served i is.region after.0 is.stands served after.1 ∙ is.is_port)
      | inr other ↦
          port_of new.regions i address port port old.regions is
          (is.region, did.others_kept i is.region is.stands other, refl) is.is_port
    ]

-- a port that took a byte
abbrev Took : (regions : List (Region RamOrPort)) (i address : ℕ) → PrintPort → ℕ → Type 0
Took regions i address before byte = (port : PrintPort) × IsPortAt regions i address port × Takes before byte port

took_from : (regions old : List (Region RamOrPort)) (i address offset byte : ℕ) (before : PrintPort) (is : IsPortAt old i address before) (after : After regions i is.region) (memory : RamOrPort)
    → after.0.memory ≡ memory → byte < 256 → part_writes (Port before) offset Byte byte memory true → Took regions i address before byte
took_from regions old i address offset byte before is after (Ram words) e small writes = absurd writes
took_from regions old i address offset byte before is after (Port port) e small writes =
    let low : byte % 256 ≡ byte = omega (arith, small) in
    (port, port_of regions i address before port old is after e, subst (λ b. Takes before b port) low writes.taken)

-- a write of a byte to its address gives it the byte
port_write : (old new : Space RamOrPort) (i address byte : ℕ) (before : PrintPort) → address < 2 ^ 32 → byte < 256 → IsPortAt old.regions i address before → space_writes old address Byte byte new true → Took new.regions i address before byte
port_write old new i address byte before fits small is did =
    let after = region_after old.regions new.regions i is.region did.regions_kept is.stands in
    let served = true_serves is.region address (omega (arith, is.begins_there)) (omega (arith, is.begins_there, is.has_addresses)) fits in
    let writes = did.served i is.region after.0 is.stands served after.1 in
    let P : RamOrPort → Type 0 = λ m. part_writes m (address - is.region.base) Byte byte after.0.memory true in
    took_from new.regions old.regions i address (address - is.region.base) byte before is after after.0.memory refl small (subst P is.is_port writes)

-- ---- all accesses

-- a port that took a text
abbrev pub TookText : (regions : List (Region RamOrPort)) (i address : ℕ) → PrintPort → List ℕ → Type 0
TookText regions i address before text =
    (port : PrintPort) × IsPortAt regions i address port × TakesText before text port

pub took_text : (accesses : List Access) (text : List ℕ) (old new : Space RamOrPort) (i address : ℕ) (before : PrintPort) → address < 2 ^ 32 → ((k : ℕ) → k < length text → slice_index text k < 256)
    → IsPortAt old.regions i address before → writes_of accesses ≡ writes_to address text → Makes space_reads space_writes accesses old new → TookText new.regions i address before text
took_text [] [] old new i address before fits small is printed makes =
    (before, subst (λ s. IsPortAt s.regions i address before) (sym makes) is, refl)
took_text [] (b ∷ text) old new i address before fits small is printed makes = absurd (cc)
took_text (Read a size answer ∷ accesses) text old new i address before fits small is printed makes =
    took_text accesses text makes.0 new i address before fits small (port_read old makes.0 i address a size answer before is makes.1) printed makes.2
took_text (Write a size value answer ∷ accesses) [] old new i address before fits small is printed makes = absurd (cc)
took_text (Write a size value answer ∷ accesses) (b ∷ text) old new i address before fits small is printed makes =
    let head : Write a size value answer ≡ Write address Byte b true = cc in
    let tail : writes_of accesses ≡ writes_to address text = cc in
    let P : Access → Type 0 = λ x. Does space_reads space_writes x old makes.0 in
    let one = port_write old makes.0 i address b before fits (small 0 (omega arith)) is (subst P head makes.1) in
    let rest = took_text accesses text makes.0 new i address one.0 fits (λ k less. small (suc k) (omega (arith, less))) one.1 tail makes.2 in
    (rest.0, rest.1, (one.0, one.2, rest.2))

-- ---- the log

-- a text for which there is room is logged whole
pub logged : (text : List ℕ) (before after : PrintPort) → TakesText before text after → length before.log.items + length text ≤ vec_capacity before.log → after.log.items ≡ before.log.items ++ text
logged [] before after takes room = ap (λ p. p.log.items) takes ∙ sym (append-nil before.log.items)
logged (b ∷ text) before after takes room =
    let has : has_room before ≡ true = lt-ltb _ _ (omega (arith, room)) in
    let log : takes.0.log.items ≡ before.log.items ++ b ∷ [] = takes.1.log ∙ cond-true (has_room before) (before.log.items ++ b ∷ []) before.log.items has in
    let longer : length takes.0.log.items ≡ length before.log.items + 1 = ap length log ∙ length-append before.log.items (b ∷ []) in
    let rest = logged text takes.0 after takes.2 (omega (arith, room, longer, takes.1.room_kept)) in
    rest ∙ ap (λ xs. xs ++ text) log ∙ append_assoc before.log.items (b ∷ []) text

-- a region is one port
pub same_port : (regions : List (Region RamOrPort)) (i address : ℕ) (p q : PrintPort) → IsPortAt regions i address p → IsPortAt regions i address q → p ≡ q
same_port regions i address p q is is' =
    let same : is.region ≡ is'.region = same_Some _ _ (sym is.stands ∙ is'.stands) in
    let ports : Port p ≡ Port q = sym is.is_port ∙ ap (λ (r : Region RamOrPort). r.memory) same ∙ is'.is_port in
    cc
