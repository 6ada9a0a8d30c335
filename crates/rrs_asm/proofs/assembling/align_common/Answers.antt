use Rattle.std.proofs.Common.{[]}
use Rattle.rrs_asm.proofs.Made.{ReadsOn-then}
use Rattle.rrs_asm.proofs.assembling.align_common.Goals as goal

-- two sections were aligned
pub returns-in-Some : goal.returns-in-Some
returns-in-Some g c = ReadsOn-then [] [] c.args.reading.now c.align.new.self c.align-2.new.self c.align.ensures c.align-2.ensures

pub returns-in-None : goal.returns-in-None
returns-in-None g c = ReadsOn-then [] [] c.args.reading.now c.align.new.self c.align-2.new.self c.align.ensures c.align-2.ensures
