-- The masks cut the word into its parts.
use Rattle.std.proofs.Common.{arith}
use Rattle.rrs_memory.specs.Bytes.{width}
use Rattle.rrs_memory.proofs.VecWords.{replaced}
use Rattle.rrs_board.proofs.devices.with_part.Goals as goal

pub returns : goal.returns
returns c = replaced c.args.word c.args.value c.mask_of-mask.result (width c.args.size) c.args.place (omega arith) (omega arith) c.mask_of-mask.ensures
