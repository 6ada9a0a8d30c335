-- The mask keeps the lowest bytes of the shifted word.
use Rattle.std.proofs.Common.{◌%◌, ◌/◌, ◌^◌, ◌*◌, ap, ◌∙◌, sym}
use Rattle.rrs_memory.specs.Bytes.{width}
use Rattle.rrs_memory.proofs.ByteLemmas.{pow-256}
use Rattle.rrs_memory.proofs.VecWords.{and_low}
use Rattle.rrs_board.proofs.devices.part_of.Goals as goal

pub returns : goal.returns
returns c =
    and_low (c.args.word / 2 ^ (8 * c.args.place)) c.mask_of.result (width c.args.size) c.mask_of.ensures
    ∙ ap (λ x. c.args.word / x % 256 ^ width c.args.size) (sym (pow-256 c.args.place))
