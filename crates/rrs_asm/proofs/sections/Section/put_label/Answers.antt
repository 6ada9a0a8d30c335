use Rattle.std.proofs.Common.{refl}
use Rattle.rrs_asm.proofs.Made.{Grows-label}
use Rattle.rrs_asm.proofs.sections.Section.put_label.Goals as goal

-- the label stands after the others
pub returns : goal.returns
returns g c = Grows-label c.args.line c.args.name.now _ c.args.self.now _ refl refl c.in_ok-push.ensures.items refl refl refl refl c.here-address.ensures
