use Rattle.std.proofs.Common.{set, refl, ap, ◌∙◌, arith}
use Rattle.rrs_files.specs.Acts.{HasNoLeast, HasNoPlaceToCopy, IsCopied}
use Rattle.rrs_files.specs.Descriptors.{kept_flags}
use Rattle.rrs_files.proofs.files.Files.copy.Goals as goal

pub returns-then-least-ge-MOST_OPEN : goal.returns-then-least-ge-MOST_OPEN
returns-then-least-ge-MOST_OPEN g c =
    HasNoLeast c.in-Some.target c.in-Some.ensures (omega (arith, c.if-least-ge-MOST_OPEN.true)) refl refl

pub returns-in-None : goal.returns-in-None
returns-in-None g c =
    HasNoPlaceToCopy c.in-Some.target c.in-Some.ensures (omega (arith, c.if-least-ge-MOST_OPEN.false)) c.in-None.ensures refl refl

pub returns : goal.returns
returns g c =
    let place = c.in-Some-free_place.place in
    let noted = c.take.ensures.noted
    ∙ ap (λ f. set c.args.self.now.descriptors.flags place (kept_flags f)) c.flags_of-kept.ensures in
    IsCopied c.in-Some.target place c.in-Some.ensures c.in-Some-free_place.ensures
    (λ i. record c.args.self.now { descriptors = record { targets = c.take.ensures.taken i; flags = noted i } })
    refl
