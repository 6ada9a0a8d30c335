use Rattle.std.proofs.Common.{◌≡◌, ℕ, Bool, List, Option, ◌<◌, [], length, refl, sym, ◌∙◌, inl, inr, arith}
use Rattle.rrs_lib.specs.declared.MemAccessSize.{MemAccessSize}
use Rattle.rrs_lib.specs.AccessLists.{Access}
use Rattle.rrs_fast.specs.Serving.{MakesSome}
use Rattle.rrs_linux.specs.declared.clocks.LinuxClocks.{LinuxClocks}
use Rattle.rrs_linux.specs.BufferedBytes.{buffered_bytes}
use Rattle.rrs_linux.specs.Transfers.{IsNone, HasFailed, PassesEnd}
use Rattle.rrs_linux.proofs.Placed.{Fills-none, no_length, nothing_placed, placed}
use Rattle.rrs_linux.proofs.host.AnyInputHostSide.read_to.Goals as goal

-- the clocks are as before
with_clocks : {M : Type 0} {reads : M → ℕ → MemAccessSize → M → Option ℕ → Type 0}
    {writes : M → ℕ → MemAccessSize → ℕ → M → Bool → Type 0} {P : List Access → Type 0} {clocks clocks' : LinuxClocks}
    {m m' : M} → MakesSome reads writes P m m' → clocks' ≡ clocks
    → MakesSome reads writes (λ accesses. P accesses × (clocks' ≡ clocks)) m m'
with_clocks made kept = record { accesses = made.accesses; these = (made.these, kept); made = made.made }

pub returns-in_default-clause-given : goal.returns-in_default-clause-given
returns-in_default-clause-given g c =
    with_clocks (nothing_placed (omega (arith, c.ranges.address)) refl (Fills-none _ _ _)
    (PassesEnd (rw c.in_default.is at c.most_of.ensures) refl refl refl)) refl

pub returns-then-most-eq0-clause-given : goal.returns-then-most-eq0-clause-given
returns-then-most-eq0-clause-given g c =
    let none : c.args.count ≡ 0 = omega (arith, c.in-Some.ensures.1, c.if-most-eq0.true) in
    with_clocks (nothing_placed (omega (arith, c.ranges.address)) refl (Fills-none _ _ _)
    (IsNone c.in-Some.ensures.0 refl (inr none) refl refl)) refl

pub returns-in-None-clause-given : goal.returns-in-None-clause-given
returns-in-None-clause-given g c =
    let held = c.in-None.ensures in
    let asked : 0 < c.args.count = omega (arith, c.in-Some.ensures.1, c.if-most-eq0.false) in
    with_clocks (nothing_placed (omega (arith, c.ranges.address)) c.in-Some.ensures.1 held.filled
    (HasFailed c.in-Some.ensures.0 asked held.failed refl held.counted refl refl)) refl

pub returns-in-Some-eq0-clause-given : goal.returns-in-Some-eq0-clause-given
returns-in-Some-eq0-clause-given g c =
    let held = c.in-Some-eq0.ensures in
    let none : buffered_bytes c.hold.new.self ≡ [] = no_length _ (sym held.count ∙ c.in-Some-eq0.field-0-test) in
    with_clocks (nothing_placed (omega (arith, c.ranges.address)) c.in-Some.ensures.1 held.filled
    (IsNone c.in-Some.ensures.0 refl (inl (none, held.end c.in-Some-eq0.field-0-test)) refl refl)) refl

pub returns-in-Some-hold-clause-given : goal.returns-in-Some-hold-clause-given
returns-in-Some-hold-clause-given g c =
    let held = c.in-Some-hold.ensures in
    let more : 0 < c.in-Some.most = omega (arith, c.if-most-eq0.false) in
    let some : 0 < length (buffered_bytes c.hold.new.self) = omega (arith, held.count, c.in-Some-hold.field-0-test) in
    with_clocks (placed c.as_slice.result.now (buffered_bytes c.hold.new.self) (buffered_bytes c.skip.new.self)
    c.give_bytes-given.result.0 more c.in-Some.ensures.1 some held.filled
    c.as_slice.ensures c.skip.ensures.bytes c.give_bytes-given.ensures.given) refl
