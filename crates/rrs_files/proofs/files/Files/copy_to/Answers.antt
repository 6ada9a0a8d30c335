use Rattle.std.proofs.Common.{set, refl, ap, ◌∙◌, arith}
use Rattle.rrs_files.specs.Acts.{IsCopiedTo}
use Rattle.rrs_files.specs.Descriptors.{kept_flags}
use Rattle.rrs_files.proofs.files.Files.copy_to.Goals as goal

pub returns : goal.returns
returns g c =
    let noted = c.take.ensures.noted
    ∙ ap (λ f. set c.close.new.self.descriptors.flags c.args.to (kept_flags f)) c.flags_of-kept.ensures in
    IsCopiedTo c.in-Some.target c.close.result c.close.new.self c.if-descriptor-to.false
    c.if-flags-ne0.false (omega (arith, c.if-to-ge-MOST_OPEN.false))
    c.in-Some.ensures c.close.ensures
    (λ i. record c.close.new.self { descriptors = record { targets = c.take.ensures.taken i; flags = noted i } })
    refl
