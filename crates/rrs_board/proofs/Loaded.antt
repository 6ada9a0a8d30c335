-- An executable in the words of RAM.
use Rattle.std.proofs.Common.{◌≡◌, ℕ, ◌+◌, ◌-◌, ◌*◌, ◌/◌, ◌%◌, ◌^◌, ◌<◌, ◌≤◌, ◌&&◌, nat_lt, min, Bool, true, false, if◌then◌else◌, List, length, replicate, slice_index, Some, None, sym, subst, ap, arith}
use Rattle.std.proofs.lemmas.List.{length-replicate, get_or-replicate}
use Rattle.std.proofs.Math.Path.{fun_ext}
use Rattle.std.proofs.lemmas.Bool.Decides.{nat_tests}
use Rattle.rrs_memory.specs.Bytes.{ByteMap}
use Rattle.rrs_memory.specs.SliceBytes.{bytes_from, lies_from}
use Rattle.rrs_memory.proofs.SliceWords.{lies_same}
use Rattle.rrs_elf.specs.Headers.{e_phnum, p_paddr}
use Rattle.rrs_elf.specs.declared.program_headers.Addresses.{Addresses}
use Rattle.rrs_elf.specs.declared.program_headers.Addresses.TheVariants.{Physical}
use Rattle.rrs_elf.specs.Loading.{Stands, EndsOutside, loaded_size, lies_between}
use Rattle.rrs_board.specs.Registers.{ram_start}
use Rattle.rrs_board.specs.Boards.{is_in_ram}

-- a byte of RAM is not below it
lies_above : (words : List ℕ) (a : ℕ) → lies_from ram_start words a ≡ true → ram_start ≤ a
lies_above words a lies = grind (arith, nat_tests)

-- the segments stand in the words that were zeros
pub stands_in_ram : (at : Addresses) (file read old zeros new items : List ℕ)
    → at ≡ Physical → read ≡ file → old ≡ zeros → items ≡ new → length new ≡ length old
    → Stands at read (bytes_from ram_start old) (bytes_from ram_start new) (lies_from ram_start old) (e_phnum read) 0
    → Stands Physical file (bytes_from ram_start zeros) (bytes_from ram_start items) (lies_from ram_start items) (e_phnum file) 0
stands_in_ram at file read old zeros new items physical same is_zeros is_new kept stands =
    subst (λ f. Stands Physical f (bytes_from ram_start zeros) (bytes_from ram_start items) (lies_from ram_start items) (e_phnum f) 0) same
    (subst (λ xs. Stands Physical read (bytes_from ram_start zeros) (bytes_from ram_start xs) (lies_from ram_start xs) (e_phnum read) 0) (sym is_new)
    (subst (λ w. Stands Physical read (bytes_from ram_start zeros) (bytes_from ram_start new) w (e_phnum read) 0) (sym (lies_same ram_start old new kept))
    (subst (λ xs. Stands Physical read (bytes_from ram_start xs) (bytes_from ram_start new) (lies_from ram_start old) (e_phnum read) 0) is_zeros
    (subst (λ a. Stands a read (bytes_from ram_start old) (bytes_from ram_start new) (lies_from ram_start old) (e_phnum read) 0) physical stands))))

pub all_in_ram : (file items : List ℕ) (old new : ByteMap)
    → Stands Physical file old new (lies_from ram_start items) (e_phnum file) 0
    → (i j : ℕ) → i < e_phnum file → j < loaded_size file i → ram_start ≤ p_paddr file i + j
all_in_ram file items old new stands i j numbered within =
    lies_above items (p_paddr file i + j) (stands.segments_writable i j numbered within)

-- RAM has the addresses from its start to its end, and at reset its bytes are 0
pub in_ram_between : (words : List ℕ) (n : ℕ) → length words ≡ n → (a : ℕ)
    → lies_from ram_start words a ≡ lies_between ram_start (min (ram_start + 4 * n) (2 ^ 32)) a
in_ram_between words n many a = grind (arith, nat_tests, many)

-- a byte of a word that is 0
zero_over : (x : ℕ) → 0 / x % 256 ≡ 0
zero_over x = grind arith

of_tests : (b c : Bool) (x : ℕ) → x ≡ 0 → (if b then c else false) ≡ true → (if b then (if c then Some x else None) else None) ≡ Some 0
of_tests true true x is both = ap Some is
of_tests true false x is both = absurd (cc)
of_tests false c x is both = absurd (cc)

below_of : (b : Bool) (p n : ℕ) → (if b then (nat_lt p (4 * n) && nat_lt p (2 ^ 32)) else false) ≡ true → p / 4 < n
below_of true p n lies = grind (arith, nat_tests)
below_of false p n lies = absurd (cc)

pub zeros_in_ram : (n a : ℕ) → lies_from ram_start (replicate n 0) a ≡ true → bytes_from ram_start (replicate n 0) a ≡ Some 0
zeros_in_ram n a lies =
    of_tests _ _ _ (rw (word_zero n ((a - ram_start) / 4) (rw (length-replicate {A = ℕ} n 0) at (below_of _ (a - ram_start) _ lies))) (zero_over (256 ^ ((a - ram_start) % 4)))) lies
  where
    word_zero : (n k : ℕ) → k < n → slice_index (replicate n 0) k ≡ 0
    word_zero n k below = get_or-replicate n k 0 0 below

-- ---- refusals

-- the addresses of so many words of RAM
in_ram_same : (words : List ℕ) (n : ℕ) → length words ≡ n → (a : ℕ) → lies_from ram_start words a ≡ is_in_ram n a
in_ram_same words n many a = grind (arith, nat_tests, many)

pub outside_ram : (file words : List ℕ) (n address : ℕ) → length words ≡ n
    → EndsOutside Physical file (lies_from ram_start words) address → EndsOutside Physical file (is_in_ram n) address
outside_ram file words n address many ends =
    subst (λ f. EndsOutside Physical file f address) (fun_ext (in_ram_same words n many)) ends
