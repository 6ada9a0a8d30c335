-- What is accepted is an executable, and every executable is accepted.
use Rattle.std.proofs.Common.{◌≡◌, ◌≢◌, ℕ, zero, suc, ◌+◌, ◌*◌, ◌/◌, ◌%◌, ◌^◌, ◌<◌, ◌≤◌, ◌⊎◌, inl, inr, Bool, true, false, ◌||◌, max, List, [], ◌∷◌, ◌++◌, ◌-◌, length, slice_index, Result, Ok, Err, IsTrue, is_ok, refl, ◌∙◌, arith}
use Rattle.std.proofs.lemmas.Bool.Decides.{nat_tests}
use Rattle.rrs_elf.specs.Headers.{e_ident_class, e_ident_data, e_ident_version, e_type, e_machine, e_version, e_entry, e_phoff, e_flags, e_phentsize, e_phnum, p_type, p_offset, p_filesz, p_memsz, segment_start}
use Rattle.rrs_elf.specs.declared.code_units.CodeUnit.{CodeUnit}
use Rattle.rrs_elf.specs.declared.code_units.CodeUnit.TheVariants.{Word, HalfWord}
use Rattle.rrs_elf.specs.declared.program_headers.Addresses.{Addresses}
use Rattle.rrs_elf.specs.declared.program_headers.Addresses.TheVariants.{Virtual}
use Rattle.rrs_elf.specs.Executables.{HasAddress, HasCodeIn, bytes_of, IsExecutableAt, IsExecutableIn}
use Rattle.rrs_elf.specs.declared.errors.ElfError.TheVariants.{SegmentsOverlap}
use Rattle.rrs_elf.specs.Refusals.{Check, first_refusal, checks_below, identification_checks, kind_checks, flag_checks, table_checks, place_checks, overlap_check, segment_checks, entry_checks, checks_at, checks_in, overlap, has_address, one_has_address, is_accepted}
use Rattle.rrs_elf.specs.declared.errors.ElfError.{ElfError}
use Rattle.rrs_elf.proofs.CheckLists.{joined, passed_first, passed_second, each_passed, all_passed}

-- ---- segments that have an address

-- where one of the segments has an address, one of more has it
pub one_has : (file : List ℕ) (address n k : ℕ) → k < n → has_address file k address ≡ true → one_has_address file n address ≡ true
one_has file address zero k below has = absurd (omega arith)
one_has file address (suc n) k below has =
    let either : (k < n) ⊎ (n ≡ k) = grind arith in
    elim either [
      | inl less ↦ rw (one_has file address n k less has) refl
      | inr same ↦ rw same (rw has (elim (one_has_address file k address) as (λ b. (b || true) ≡ true) [ true ↦ refl | false ↦ refl ]))
    ]

has_from : (file : List ℕ) (i a : ℕ) → i < e_phnum file → has_address file i a ≡ true → HasAddress Virtual file i a
has_from file i a numbered has = record {
  loaded = record { numbered = numbered; of_type = grind (arith, nat_tests, has) };
  from_start = grind (arith, nat_tests, has);
  before_end = grind (arith, nat_tests, has);
}

has_to : (file : List ℕ) (i a : ℕ) → HasAddress Virtual file i a → has_address file i a ≡ true
has_to file i a has =
    let kind = has.loaded.of_type in
    let from = has.from_start in
    let end = has.before_end in
    grind (arith, nat_tests)

one_of : (file : List ℕ) (a n : ℕ) → n ≤ e_phnum file → one_has_address file n a ≡ true → (i : ℕ) × HasAddress Virtual file i a
one_of file a zero within one = absurd (cc)
one_of file a (suc n) within one =
    let either : (one_has_address file n a ≡ true) ⊎ (has_address file n a ≡ true) = either_of (one_has_address file n a) (has_address file n a) one in
    elim either [
      | inl earlier ↦ one_of file a n (omega arith) earlier
      | inr here ↦ (n, has_from file n a (omega arith) here)
    ]
  where
    either_of : (b c : Bool) → (b || c) ≡ true → (b ≡ true) ⊎ (c ≡ true)
    either_of true c e = inl refl
    either_of false c e = inr e

overlap_to : (at : Addresses) (file : List ℕ) (i j a : ℕ) → HasAddress at file i a → HasAddress at file j a → overlap at file i j ≡ true
overlap_to at file i j a one other =
    let kind = one.loaded.of_type in
    let from = one.from_start in
    let end = one.before_end in
    let kind' = other.loaded.of_type in
    let from' = other.from_start in
    let end' = other.before_end in
    grind (arith, nat_tests)

overlap_from : (at : Addresses) (file : List ℕ) (i j : ℕ) → i < e_phnum file → j < e_phnum file → overlap at file i j ≡ true
    → let a = max (segment_start at file i) (segment_start at file j) in HasAddress at file i a × HasAddress at file j a
overlap_from at file i j numbered numbered' both = (
  record {
    loaded = record { numbered = numbered; of_type = grind (arith, nat_tests, both) };
    from_start = omega arith;
    before_end = grind (arith, nat_tests, both);
  },
  record {
    loaded = record { numbered = numbered'; of_type = grind (arith, nat_tests, both) };
    from_start = omega arith;
    before_end = grind (arith, nat_tests, both);
  },
)

-- ---- the parts of the checks

record Identified (file : List ℕ) : Type 0 where
  whole : 52 ≤ length file
  magic : (slice_index file 0 ≡ 0x7f) × (slice_index file 1 ≡ 0x45) × (slice_index file 2 ≡ 0x4c) × (slice_index file 3 ≡ 0x46)
  class_32 : e_ident_class file ≡ 1
  lowest_byte_first : e_ident_data file ≡ 1
  ident_version : e_ident_version file ≡ 1

identified : (file : List ℕ) → first_refusal (identification_checks file) ≡ Ok tt → Identified file
unfolding identification_checks
identified file passed = record {
  whole = grind (arith, nat_tests, passed);
  magic = (grind (arith, nat_tests, passed), grind (arith, nat_tests, passed), grind (arith, nat_tests, passed), grind (arith, nat_tests, passed));
  class_32 = grind (arith, nat_tests, passed);
  lowest_byte_first = grind (arith, nat_tests, passed);
  ident_version = grind (arith, nat_tests, passed);
}

identification_passes : (file : List ℕ) → Identified file → first_refusal (identification_checks file) ≡ Ok tt
unfolding identification_checks
identification_passes file is =
    let whole = is.whole in
    let magic = is.magic in
    let class = is.class_32 in
    let order = is.lowest_byte_first in
    let version = is.ident_version in
    grind (arith, nat_tests)

kind_from : (file : List ℕ) → first_refusal (kind_checks file) ≡ Ok tt → (e_type file ≡ 2) × (e_machine file ≡ 243) × (e_version file ≡ 1)
unfolding kind_checks
kind_from file passed = (grind (arith, nat_tests, passed), grind (arith, nat_tests, passed), grind (arith, nat_tests, passed))

kind_to : (file : List ℕ) → e_type file ≡ 2 → e_machine file ≡ 243 → e_version file ≡ 1 → first_refusal (kind_checks file) ≡ Ok tt
unfolding kind_checks
kind_to file t m v = grind (arith, nat_tests)

flags_from : (unit : CodeUnit) (file : List ℕ) → first_refusal (flag_checks unit file) ≡ Ok tt → HasCodeIn unit file × (e_flags file / 2 % 4 ≡ 0) × (e_flags file / 8 % 2 ≡ 0)
unfolding flag_checks
flags_from Word file passed = (grind (arith, nat_tests, passed), grind (arith, nat_tests, passed), grind (arith, nat_tests, passed))
flags_from HalfWord file passed = (tt, grind (arith, nat_tests, passed), grind (arith, nat_tests, passed))

flags_to : (unit : CodeUnit) (file : List ℕ) → HasCodeIn unit file → e_flags file / 2 % 4 ≡ 0 → e_flags file / 8 % 2 ≡ 0 → first_refusal (flag_checks unit file) ≡ Ok tt
unfolding flag_checks
flags_to Word file c f e = grind (arith, nat_tests)
flags_to HalfWord file c f e = grind (arith, nat_tests)

table_from : (file : List ℕ) → first_refusal (table_checks file) ≡ Ok tt → (e_phentsize file ≡ 32) × (e_phnum file ≤ 256) × (e_phoff file + 32 * e_phnum file ≤ length file)
unfolding table_checks
table_from file passed = (grind (arith, nat_tests, passed), grind (arith, nat_tests, passed), grind (arith, nat_tests, passed))

table_to : (file : List ℕ) → e_phentsize file ≡ 32 → e_phnum file ≤ 256 → e_phoff file + 32 * e_phnum file ≤ length file → first_refusal (table_checks file) ≡ Ok tt
unfolding table_checks
table_to file s n w = grind (arith, nat_tests)

record Placed (at : Addresses) (file : List ℕ) (i : ℕ) : Type 0 where
  no_interpreter : p_type file i ≢ 3
  bytes_within : (k : ℕ) → p_type file i ≡ 1 → k < p_filesz file i → p_offset file i + k < length file
  sizes : p_type file i ≡ 1 → p_filesz file i ≤ p_memsz file i
  addresses : p_type file i ≡ 1 → segment_start at file i + p_memsz file i ≤ 2 ^ 32

place_from : (at : Addresses) (file : List ℕ) (i : ℕ) → first_refusal (place_checks at file i) ≡ Ok tt → Placed at file i
unfolding place_checks
place_from at file i passed = record {
  no_interpreter = λ e. grind (arith, nat_tests, passed, e);
  bytes_within = λ k loaded below. grind (arith, nat_tests, passed);
  sizes = λ loaded. grind (arith, nat_tests, passed);
  addresses = λ loaded. grind (arith, nat_tests, passed);
}

place_to : (at : Addresses) (file : List ℕ) (i : ℕ) → Placed at file i → first_refusal (place_checks at file i) ≡ Ok tt
unfolding place_checks
place_to at file i is =
    let own = is.no_interpreter in
    let within = is.bytes_within (p_filesz file i - 1) in
    let sizes = is.sizes in
    let addresses = is.addresses in
    grind (arith, nat_tests)

overlap_none : (at : Addresses) (file : List ℕ) (i j : ℕ) → first_refusal (overlap_check at file i j) ≡ Ok tt → overlap at file j i ≡ false
unfolding overlap_check
overlap_none at file i j passed = test_of (overlap at file j i) passed
  where
    test_of : (b : Bool) → first_refusal ((b, SegmentsOverlap j i) ∷ []) ≡ Ok tt → b ≡ false
    test_of true e = absurd (cc)
    test_of false e = refl

overlap_passes : (at : Addresses) (file : List ℕ) (i j : ℕ) → overlap at file j i ≡ false → first_refusal (overlap_check at file i j) ≡ Ok tt
unfolding overlap_check
overlap_passes at file i j none = rw none refl

entry_from : (unit : CodeUnit) (file : List ℕ) → first_refusal (entry_checks unit file) ≡ Ok tt → (e_entry file % bytes_of unit ≡ 0) × (one_has_address file (e_phnum file) (e_entry file) ≡ true)
unfolding entry_checks
entry_from unit file passed = (grind (arith, nat_tests, passed), grind (arith, nat_tests, passed))

entry_to : (unit : CodeUnit) (file : List ℕ) → e_entry file % bytes_of unit ≡ 0 → one_has_address file (e_phnum file) (e_entry file) ≡ true → first_refusal (entry_checks unit file) ≡ Ok tt
unfolding entry_checks
entry_to unit file aligned inside = grind (arith, nat_tests)

-- ---- all of them

pub accepted_from : (unit : CodeUnit) (at : Addresses) (file : List ℕ) → first_refusal (checks_in unit at file) ≡ Ok tt → IsExecutableIn unit at file
accepted_from unit at file passed =
    let first = identified file (passed_first (identification_checks file) _ passed) in
    let after_first = passed_second (identification_checks file) _ passed in
    let kind = kind_from file (passed_first (kind_checks file) _ after_first) in
    let after_kind = passed_second (kind_checks file) _ after_first in
    let flags = flags_from unit file (passed_first (flag_checks unit file) _ after_kind) in
    let after_flags = passed_second (flag_checks unit file) _ after_kind in
    let table = table_from file (passed_first (table_checks file) _ after_flags) in
    let after_table = passed_second (table_checks file) _ after_flags in
    let segments = passed_first (checks_below (segment_checks at file) (e_phnum file)) _ after_table in
    let entry = entry_from unit file (passed_second (checks_below (segment_checks at file) (e_phnum file)) _ after_table) in
    let segment : (i : ℕ) → i < e_phnum file → first_refusal (segment_checks at file i) ≡ Ok tt = λ i below. each_passed (segment_checks at file) (e_phnum file) i below segments in
    let place : (i : ℕ) → i < e_phnum file → Placed at file i = λ i below. place_from at file i (passed_first (place_checks at file i) _ (segment i below)) in
    let apart_below : (i j a : ℕ) → j < i → HasAddress at file i a → HasAddress at file j a → ⊥ = λ i j a before one other.
    let none = overlap_none at file i j (each_passed (overlap_check at file i) i j before (passed_second (place_checks at file i) _ (segment i one.loaded.numbered))) in
    let both = overlap_to at file j i a other one in
    cc
    in
    record {
      whole = first.whole;
      magic = first.magic;
      class_32 = first.class_32;
      lowest_byte_first = first.lowest_byte_first;
      ident_version = first.ident_version;
      executable = kind.0;
      risc_v = kind.1;
      version = kind.2;
      code = flags.0;
      integers_only = flags.1;
      all_registers = flags.2;
      header_size = table.0;
      counted = table.1;
      headers_within = table.2;
      no_interpreter = λ i below. (place i below).no_interpreter;
      bytes_within = λ i k loaded. (place i loaded.numbered).bytes_within k loaded.of_type;
      sizes = λ i loaded. (place i loaded.numbered).sizes loaded.of_type;
      addresses = λ i loaded. (place i loaded.numbered).addresses loaded.of_type;
      apart = λ i j a one other.
          let either : (j < i) ⊎ ((i < j) ⊎ (i ≡ j)) = grind arith in
          elim either [
            | inl before ↦ absurd (apart_below i j a before one other)
            | inr rest ↦ elim rest [
              | inl after ↦ absurd (apart_below j i a after other one)
              | inr same ↦ same
            ]
          ];
      entry_aligned = entry.0;
      entry_inside = one_of file (e_entry file) (e_phnum file) (omega arith) entry.1;
    }

pub passed_in : (unit : CodeUnit) (at : Addresses) (file : List ℕ) → IsExecutableIn unit at file → first_refusal (checks_in unit at file) ≡ Ok tt
passed_in unit at file is =
    let first = identification_passes file (record { whole = is.whole; magic = is.magic; class_32 = is.class_32; lowest_byte_first = is.lowest_byte_first; ident_version = is.ident_version }) in
    let kind = kind_to file is.executable is.risc_v is.version in
    let flags = flags_to unit file is.code is.integers_only is.all_registers in
    let table = table_to file is.header_size is.counted is.headers_within in
    let inside = one_has file (e_entry file) (e_phnum file) is.entry_inside.0 is.entry_inside.1.loaded.numbered (has_to file _ _ is.entry_inside.1) in
    let entry = entry_to unit file is.entry_aligned inside in
    let segments = all_passed (segment_checks at file) (e_phnum file) (λ i below. segment_to i below) in
    pass (identification_checks file) _ first
    (pass (kind_checks file) _ kind
    (pass (flag_checks unit file) _ flags
    (pass (table_checks file) _ table
    (pass (checks_below (segment_checks at file) (e_phnum file)) _ segments entry))))
  where
    pass : (xs ys : List Check) → first_refusal xs ≡ Ok tt → first_refusal ys ≡ Ok tt → first_refusal (xs ++ ys) ≡ Ok tt
    pass xs ys one other = joined xs ys ∙ (rw (one, other) refl)

    none_of : (i j : ℕ) → i < e_phnum file → j < i → overlap at file j i ≡ false
    none_of i j below before = false_of (overlap at file j i) (λ both.
        let shared = overlap_from at file j i (omega arith) below both in
        let same = is.apart j i _ shared.0 shared.1 in
        omega arith)
      where
        false_of : (b : Bool) → (b ≡ true → ⊥) → b ≡ false
        false_of true never = absurd (never refl)
        false_of false never = refl

    segment_to : (i : ℕ) → i < e_phnum file → first_refusal (segment_checks at file i) ≡ Ok tt
    segment_to i below = pass (place_checks at file i) (checks_below (overlap_check at file i) i)
        (place_to at file i (record {
          no_interpreter = is.no_interpreter i below;
          bytes_within = λ k kind. is.bytes_within i k (record { numbered = below; of_type = kind });
          sizes = λ kind. is.sizes i (record { numbered = below; of_type = kind });
          addresses = λ kind. is.addresses i (record { numbered = below; of_type = kind });
        }))
        (all_passed (overlap_check at file i) i (λ j before. overlap_passes at file i j (none_of i j below before)))

-- the same without compressed code
pub accepted_to : (at : Addresses) (file : List ℕ) → IsExecutableAt at file → first_refusal (checks_at at file) ≡ Ok tt
accepted_to at file is = passed_in Word at file is

-- what a value of the type holds
pub holds : (unit : CodeUnit) (at : Addresses) (file : List ℕ) → IsTrue (is_accepted unit at file) → IsExecutableIn unit at file
holds unit at file accepted = accepted_from unit at file (ok_of (first_refusal (checks_in unit at file)) accepted)
  where
    ok_of : (r : Result (Unit {0}) ElfError) → IsTrue (is_ok r) → r ≡ Ok tt
    ok_of (Ok done) e = refl
    ok_of (Err error) e = absurd (cc)
