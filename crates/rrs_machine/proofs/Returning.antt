-- What a trap and a return from it leave.
use Rattle.std.proofs.Common.{◌≡◌, ℕ, ◌+◌, ◌-◌, ◌*◌, ◌/◌, ◌%◌, ◌^◌, ◌<◌, ◌==◌, Bool, true, false, if◌then◌else◌, bit_and, refl, sym, ap, ◌∙◌, lit<, arith}
use Rattle.std.proofs.lemmas.Nat.{and_block, and_mask}
use Rattle.std.specs.Int.Bits.{or_zero_l}
use Rattle.std.proofs.Math.Nat.{mod-eq_of_lt}
use Rattle.rrs_instruction.specs.Words.{bit}
use Rattle.rrs_instruction.proofs.Bitwise.{and-word, or-word}
use Rattle.rrs_machine.specs.declared.csrs.CsrFile.{CsrFile}
use Rattle.rrs_words.specs.declared.csrs.Csr.TheVariants.{Mepc}
use Rattle.rrs_machine.specs.declared.csrs.Inputs.{Inputs}
use Rattle.rrs_machine.specs.declared.csrs.Mode.{Mode}
use Rattle.rrs_machine.specs.declared.csrs.Mode.TheVariants.{User, Machine}
use Rattle.rrs_words.specs.declared.csrs.Profile.{Profile}
use Rattle.rrs_words.specs.CsrNumbers.{both, either, return_bits, previous}
use Rattle.rrs_machine.specs.Csrs.{mode_number, mode_of, csr_value, cycle_counted, retired_file}
use Rattle.rrs_machine.specs.Traps.{alignment, mode_bits, trap_file, previous_mode, returned_mprv, return_file}
use Rattle.rrs_machine.proofs.Counting.{stops_cycles, cycle_at, retired_at}

-- a multiple of 4 keeps its bits, and so does one of 2
both-multiple : (n : ℕ) → n < 2 ^ 32 → n % 4 ≡ 0 → both n 0xfffffffc ≡ n
both-multiple n below even =
    let quarter : n / 4 < 2 ^ 30 = omega arith in
    let parts : n ≡ n / 4 * 2 ^ 2 + 0 = omega arith in
    let split : bit_and n 0xfffffffc ≡ bit_and (n / 4 * 2 ^ 2 + 0) ((2 ^ 30 - 1) * 2 ^ 2 + 0) = ap (λ k. bit_and k 0xfffffffc) parts in
    let blocks = and_block 2 (n / 4) (2 ^ 30 - 1) 0 0 (lit< tt) (lit< tt) in
    let mask : bit_and (n / 4) (2 ^ 30 - 1) ≡ n / 4 % 2 ^ 30 = and_mask (n / 4) 30 in
    let kept : n / 4 % 2 ^ 30 ≡ n / 4 = mod-eq_of_lt quarter in
    let whole : bit_and n 0xfffffffc ≡ n = split ∙ blocks ∙ omega (arith, mask, kept, parts) in
    sym (and-word n 0xfffffffc below (lit< tt)) ∙ whole

both-even : (n : ℕ) → n < 2 ^ 32 → n % 2 ≡ 0 → both n 0xfffffffe ≡ n
both-even n below even =
    let half : n / 2 < 2 ^ 31 = omega arith in
    let parts : n ≡ n / 2 * 2 ^ 1 + 0 = omega arith in
    let split : bit_and n 0xfffffffe ≡ bit_and (n / 2 * 2 ^ 1 + 0) ((2 ^ 31 - 1) * 2 ^ 1 + 0) = ap (λ k. bit_and k 0xfffffffe) parts in
    let blocks = and_block 1 (n / 2) (2 ^ 31 - 1) 0 0 (lit< tt) (lit< tt) in
    let mask : bit_and (n / 2) (2 ^ 31 - 1) ≡ n / 2 % 2 ^ 31 = and_mask (n / 2) 31 in
    let kept : n / 2 % 2 ^ 31 ≡ n / 2 = mod-eq_of_lt half in
    let whole : bit_and n 0xfffffffe ≡ n = split ∙ blocks ∙ omega (arith, mask, kept, parts) in
    sym (and-word n 0xfffffffe below (lit< tt)) ∙ whole

-- so a pc does where an instruction may lie
both-returned : (b : Bool) (n : ℕ) → n < 2 ^ 32 → n % (if b then 2 else 4) ≡ 0 → both n (2 ^ 32 - 1 - 2 ^ 0 - (if b then 0 else 2 ^ 1)) ≡ n
both-returned true n below even = both-even n below even
both-returned false n below even = both-multiple n below even

-- what mepc gives back
either-zero : (n : ℕ) → n < 2 ^ 32 → either 0 n ≡ n
either-zero n below = sym (or-word 0 n (lit< tt) below) ∙ or_zero_l n

-- a choice between files that differ in a counter
same_status : (b : Bool) (f : CsrFile) (n : ℕ) → (if b then f else record f { mcycle = n }).mstatus ≡ f.mstatus
same_status true f n = refl
same_status false f n = refl

same_status_counted : (b : Bool) (f : CsrFile) (n : ℕ) → (if b then f else record f { minstret = n }).mstatus ≡ f.mstatus
same_status_counted true f n = refl
same_status_counted false f n = refl

cycle-status : (f : CsrFile) → (cycle_counted f).mstatus ≡ f.mstatus
cycle-status f = same_status (bit f.mcountinhibit 0 == 1) f ((f.mcycle + 1) % 2 ^ 64)

retired-status : (f : CsrFile) → (retired_file f).mstatus ≡ f.mstatus
retired-status f =
    let g = cycle_counted f in
    same_status_counted (bit g.mcountinhibit 2 == 1) g ((g.minstret + 1) % 2 ^ 64) ∙ cycle-status f

-- the pc comes back
pub pc_returns : (cause value pc : ℕ) (f : CsrFile) (i : Inputs) → pc < 2 ^ 32 → pc % alignment f.profile ≡ 0
    → csr_value Mepc (cycle_counted (trap_file cause value pc f)) i ≡ pc
pc_returns cause value pc f i below even =
    let g = trap_file cause value pc f in
    let once = both-returned f.profile.hart.compressed pc below even in
    ap (λ x. csr_value Mepc x i) (cycle_at (stops_cycles g) g)
    ∙ ap (λ n. either 0 (both n (return_bits f.profile))) once ∙ ap (either 0) once ∙ either-zero pc below

-- MPP and what is above it are far from MIE and MPIE
above : (p : Profile) (mpp mprv tw : ℕ) → mode_bits p mpp mprv tw ≡ mode_bits p mpp mprv tw / 2 ^ 11 * 2 ^ 11
above p mpp mprv tw = by_case p.user_mode where
  by_case : (b : Bool) → (if b then mpp * 2 ^ 11 + mprv * 2 ^ 17 + tw * 2 ^ 21 else 0)
      ≡ (if b then mpp * 2 ^ 11 + mprv * 2 ^ 17 + tw * 2 ^ 21 else 0) / 2 ^ 11 * 2 ^ 11
  by_case true = omega arith
  by_case false = refl

-- MIE goes into MPIE and comes back
mie_after : (m x y : ℕ) → bit (2 ^ 7 + bit (bit m 3 * 2 ^ 7 + x * 2 ^ 11) 7 * 2 ^ 3 + y * 2 ^ 11) 3 ≡ bit m 3
mie_after m x y = omega arith

bit_returns : (p : Profile) (m a b c d e g : ℕ)
    → bit (2 ^ 7 + bit (bit m 3 * 2 ^ 7 + mode_bits p a b c) 7 * 2 ^ 3 + mode_bits p d e g) 3 ≡ bit m 3
bit_returns p m a b c d e g =
    (λ k. bit (2 ^ 7 + bit (bit m 3 * 2 ^ 7 + above p a b c k) 7 * 2 ^ 3 + above p d e g k) 3)
    ∙ mie_after m (mode_bits p a b c / 2 ^ 11) (mode_bits p d e g / 2 ^ 11)

cycle-profile : (f : CsrFile) → (cycle_counted f).profile ≡ f.profile
cycle-profile f = ap (λ (x : CsrFile). x.profile) (cycle_at (stops_cycles f) f)

pub enabled_returns : (cause value pc : ℕ) (f : CsrFile)
    → bit (retired_file (return_file (cycle_counted (trap_file cause value pc f)))).mstatus 3 ≡ bit f.mstatus 3
enabled_returns cause value pc f =
    let g = trap_file cause value pc f in
    let h = cycle_counted g in
    ap (λ n. bit n 3) (retired-status (return_file h))
    ∙ (λ k. bit (2 ^ 7 + bit (cycle-status g k) 7 * 2 ^ 3 + mode_bits (cycle-profile g k) 0 (returned_mprv (previous_mode h) h) (bit h.mstatus 21)) 3)
    ∙ bit_returns f.profile f.mstatus _ _ _ 0 (returned_mprv (previous_mode h) h) (bit h.mstatus 21)

-- and the mode goes into MPP and comes back
mpp_after : (m mpp mprv tw : ℕ) → mpp < 4 → previous (bit m 3 * 2 ^ 7 + (mpp * 2 ^ 11 + mprv * 2 ^ 17 + tw * 2 ^ 21)) ≡ mpp
mpp_after m mpp mprv tw low = omega (arith, low)

mode_back : (b : Bool) (mode : Mode) (m : ℕ)
    → (if b then (if b then (if previous (bit m 3 * 2 ^ 7 + (if b then mode_number mode * 2 ^ 11 + bit m 17 * 2 ^ 17 + bit m 21 * 2 ^ 21 else 0)) == 3
    then Machine else User) else Machine) else Machine)
    ≡ (if b then mode else Machine)
mode_back true User m = ap (λ n. if n == 3 then Machine else User) (mpp_after m 0 (bit m 17) (bit m 21) (lit< tt))
mode_back true Machine m = ap (λ n. if n == 3 then Machine else User) (mpp_after m 3 (bit m 17) (bit m 21) (lit< tt))
mode_back false mode m = refl

pub mode_returns : (cause value pc : ℕ) (f : CsrFile)
    → mode_of (retired_file (return_file (cycle_counted (trap_file cause value pc f)))) ≡ mode_of f
mode_returns cause value pc f =
    let g = trap_file cause value pc f in
    ap mode_of (retired_at (return_file (cycle_counted g)))
    ∙ ap (λ (x : CsrFile). mode_of (return_file x)) (cycle_at (stops_cycles g) g)
    ∙ mode_back f.profile.user_mode f.mode f.mstatus
