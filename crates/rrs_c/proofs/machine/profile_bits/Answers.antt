-- Each flag is the bit at its place.
use Rattle.std.proofs.Common.{◌≡◌, ◌<◌, ◌==◌, ℕ, zero, suc, ◌+◌, ◌*◌, Bool, true, false, not, refl, sym, ap, ◌∙◌, arith}
use Rattle.rrs_lib.specs.Words.{bit}
use Rattle.rrs_c.proofs.machine.profile_bits.Goals as goal

is_one : (x y : ℕ) (b : Bool) → x ≡ y → (y == 1) ≡ b → (x == 1) ≡ b
is_one x y b same one = ap (λ z. z == 1) same ∙ one

none_is_zero : (y : ℕ) (b : Bool) → y < 2 → (y == 1) ≡ not b → (y == 0) ≡ b
none_is_zero zero true low one = refl
none_is_zero zero false low one = sym one
none_is_zero (suc zero) true low one = sym one
none_is_zero (suc zero) false low one = refl
none_is_zero (suc (suc y)) b low one = absurd (omega (arith, low))

is_zero : (x y : ℕ) (b : Bool) → x ≡ y → y < 2 → (y == 1) ≡ not b → (x == 0) ≡ b
is_zero x y b same low one = ap (λ z. z == 0) same ∙ none_is_zero y b low one

abbrev all_bits : ℕ → ℕ → ℕ → ℕ → ℕ → ℕ → ℕ → ℕ → ℕ → ℕ → ℕ → ℕ
all_bits a u s m f x y z c k i =
    a + 2 * u + 4 * s + 8 * m + 16 * f + 32 * x + 64 * y + 128 * z + 256 * c + 512 * k + 1024 * i

abbrev AreBits : ℕ → ℕ → ℕ → ℕ → ℕ → ℕ → ℕ → ℕ → ℕ → ℕ → ℕ → ℕ → Type 0
AreBits n a u s m f x y z c k i =
    (bit n 0 ≡ a) × (bit n 1 ≡ u) × (bit n 2 ≡ s) × (bit n 3 ≡ m) × (bit n 4 ≡ f) × (bit n 5 ≡ x) × (bit n 6 ≡ y) × (bit n 7 ≡ z) × (bit n 8 ≡ c) × (bit n 9 ≡ k) × (bit n 10 ≡ i)

bits_of : (a u s m f x y z c k i : ℕ) → a < 2 → u < 2 → s < 2 → m < 2 → f < 2 → x < 2 → y < 2 → z < 2 → c < 2 → k < 2 → i < 2
    → AreBits (all_bits a u s m f x y z c k i) a u s m f x y z c k i
bits_of a u s m f x y z c k i la lu ls lm lf lx ly lz lc lk li =
    (omega (arith, la, lu, ls, lm, lf, lx, ly, lz, lc, lk, li), omega (arith, la, lu, ls, lm, lf, lx, ly, lz, lc, lk, li), omega (arith, la, lu, ls, lm, lf, lx, ly, lz, lc, lk, li), omega (arith, la, lu, ls, lm, lf, lx, ly, lz, lc, lk, li), omega (arith, la, lu, ls, lm, lf, lx, ly, lz, lc, lk, li), omega (arith, la, lu, ls, lm, lf, lx, ly, lz, lc, lk, li), omega (arith, la, lu, ls, lm, lf, lx, ly, lz, lc, lk, li), omega (arith, la, lu, ls, lm, lf, lx, ly, lz, lc, lk, li), omega (arith, la, lu, ls, lm, lf, lx, ly, lz, lc, lk, li), omega (arith, la, lu, ls, lm, lf, lx, ly, lz, lc, lk, li), omega (arith, la, lu, ls, lm, lf, lx, ly, lz, lc, lk, li))

pub returns : goal.returns
returns c =
    let a = c.flag.result in
    let u = c.flag-2.result in
    let s = c.flag-3.result in
    let m = c.flag-4.result in
    let f = c.flag-5.result in
    let zba = c.flag-6.result in
    let zbb = c.flag-7.result in
    let zbs = c.flag-8.result in
    let zbc = c.flag-9.result in
    let zbkb = c.flag-10.result in
    let zicond = c.flag-11.result in
    let at : AreBits (all_bits a u s m f zba zbb zbs zbc zbkb zicond) a u s m f zba zbb zbs zbc zbkb zicond =
    bits_of a u s m f zba zbb zbs zbc zbkb zicond c.flag.ensures.flag c.flag-2.ensures.flag c.flag-3.ensures.flag c.flag-4.ensures.flag c.flag-5.ensures.flag
    c.flag-6.ensures.flag c.flag-7.ensures.flag c.flag-8.ensures.flag c.flag-9.ensures.flag c.flag-10.ensures.flag c.flag-11.ensures.flag in
    let p = c.args.profile in
    λ k. record {
      hart = record {
        atomics = is_one _ a p.hart.atomics at.0 c.flag.ensures.same k;
        fence_i = is_zero _ f p.hart.fence_i at.4 c.flag-5.ensures.flag c.flag-5.ensures.same k;
        misaligned = is_one _ m p.hart.misaligned at.3 c.flag-4.ensures.same k;
        compressed = is_one _ s p.hart.compressed at.2 c.flag-3.ensures.same k;
        zba = is_one _ zba p.hart.zba at.5 c.flag-6.ensures.same k;
        zbb = is_one _ zbb p.hart.zbb at.6 c.flag-7.ensures.same k;
        zbs = is_one _ zbs p.hart.zbs at.7 c.flag-8.ensures.same k;
        zbc = is_one _ zbc p.hart.zbc at.8 c.flag-9.ensures.same k;
        zbkb = is_one _ zbkb p.hart.zbkb at.9 c.flag-10.ensures.same k;
        zicond = is_one _ zicond p.hart.zicond at.10 c.flag-11.ensures.same k;
      };
      user_mode = is_one _ u p.user_mode at.1 c.flag-2.ensures.same k;
    }
