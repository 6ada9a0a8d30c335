-- There is one layout of a program with these addresses, where so many bytes are wanted.
use Rattle.std.proofs.Common.{◌≡◌, ◌⊎◌, List, ℕ, ◌+◌, ◌-◌, ◌*◌, ◌/◌, ◌%◌, ◌^◌, ◌<◌, ◌≤◌, min, inl, inr, arith}
use Rattle.rrs_exec.specs.declared.layout.Layout.{Layout}
use Rattle.rrs_exec.specs.Images.{AreLong, first_address, end_address}
use Rattle.rrs_exec.specs.InitialStack.{stack_pointer}
use Rattle.rrs_exec.specs.Layouts.{IsLayout}

page-of : (a b x : ℕ) → a ≤ x → b ≤ x → a % 4096 ≡ 0 → b % 4096 ≡ 0 → x < a + 4096 → x < b + 4096 → a ≡ b
page-of a b x la lb za zb ma mb = omega arith

page-behind : (a b x : ℕ) → x ≤ a → x ≤ b → a % 4096 ≡ 0 → b % 4096 ≡ 0 → a < x + 4096 → b < x + 4096 → a ≡ b
page-behind a b x la lb za zb ma mb = omega arith

last-page : (a b most top : ℕ) → a ≤ most → b ≤ most → a ≤ top → b ≤ top → a % 4096 ≡ 0 → b % 4096 ≡ 0
    → (most < a + 4096) ⊎ (a ≡ top) → (most < b + 4096) ⊎ (b ≡ top) → a ≡ b
last-page a b most top la lb ta tb za zb (inl x) (inl y) = omega arith
last-page a b most top la lb ta tb za zb (inl x) (inr y) = omega arith
last-page a b most top la lb ta tb za zb (inr x) (inl y) = omega arith
last-page a b most top la lb ta tb za zb (inr x) (inr y) = omega arith

half-of : (s t a b c d size : ℕ) → a ≡ b → c ≡ d → s + min ((a - c) / 2) 8388608 / 4096 * 4096 ≡ a → t + min ((b - d) / 2) 8388608 / 4096 * 4096 ≡ b → s ≡ t
half-of s t a b c d size e f one other = omega arith

pub one_layout : (start end wanted : ℕ) (l m : Layout) → IsLayout start end wanted l → IsLayout start end wanted m
    → (l.end ≡ m.end) × (l.stack_start ≡ m.stack_start)
one_layout start end wanted l m a b =
    let base : l.base ≡ m.base = page-of _ _ start a.first b.first a.first_page.0 b.first_page.0 a.first_page.1 b.first_page.1 in
    let heap : l.heap_start ≡ m.heap_start = page-behind _ _ end a.behind b.behind a.next_page.0 b.next_page.0 a.next_page.1 b.next_page.1 in
    let within : m.end ≤ l.base + wanted = omega (arith, base, b.ceiling) in
    let enough : (l.base + wanted < m.end + 4096) ⊎ (m.end ≡ 2 ^ 32 - 4096) = rw (base) b.enough in
    let last : l.end ≡ m.end = last-page l.end m.end (l.base + wanted) (2 ^ 32 - 4096) a.ceiling within a.top b.top a.end_page b.end_page a.enough enough in
    (last, half-of _ _ _ _ _ _ 0 last heap a.half b.half)

-- arguments that fit in the stack are not long
pub not_long : (file : List ℕ) (arguments variables : List (List ℕ)) (wanted sp : ℕ) (l : Layout) → IsLayout (first_address file) (end_address file) wanted l
    → sp ≡ stack_pointer l.end arguments variables → l.stack_start ≤ sp → AreLong file arguments variables wanted → ⊥
not_long file arguments variables wanted sp l mine is on long =
    let same = one_layout _ _ _ l long.0 mine long.1 in
    let there : sp < long.0.stack_start = rw (is, same.0) long.2 in
    omega (arith, there, same.1, on)
