use Rattle.std.proofs.Common.{refl}
use Rattle.rrs_asm.proofs.Made.{adds-placed}
use Rattle.rrs_asm.proofs.output.Assembled.place.Goals as goal

-- the statement stands after the others
pub returns-clause-placed : goal.returns-clause-placed
returns-clause-placed g c = adds-placed _ _ _ _ _ _ _ _ c.in_ok-push.ensures.items refl c.in_ok-address.ensures refl c.in_ok-append.ensures.own
