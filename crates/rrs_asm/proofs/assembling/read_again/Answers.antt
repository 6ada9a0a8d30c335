use Rattle.rrs_asm.specs.Sections.{names_of}
use Rattle.rrs_asm.proofs.Made.{IsRead-nothing}
use Rattle.rrs_asm.proofs.assembling.read_again.Goals as goal

-- nothing was read before
pub returns : goal.returns
returns g c = λ good. (
  names_of c.begin-2.new.self.sections.items,
  (c.read_source.ensures good).reads _ _ (IsRead-nothing c.begin-2.new.self c.begin-2.ensures.sections c.begin-2.ensures.current),
)
