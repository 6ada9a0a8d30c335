use Rattle.std.proofs.Common.{◌≡◌, ℕ, length, ap, ◌∙◌, arith}
use Rattle.std.proofs.lemmas.List.{length-replicate}
use Rattle.rrs_cli.proofs.LoadEnds.{not_to_the_end}
use Rattle.rrs_cli.proofs.loading.load.Goals as goal

pub unreachable-requires : goal.unreachable-requires
unreachable-requires g c =
    let loads = (rw c.in-Err-EndOfAddresses.field-0-is at c.in-Err-EndOfAddresses.ensures).loads in
    let words = c.in_ok-memory.memory.mem.items in
    let long : length words ≡ c.args.words = ap length c.in_ok-memory.ensures.words ∙ length-replicate {A = ℕ} c.args.words 0 in
    not_to_the_end words c.args.words (length loads.input) long loads.loaded.writable_there (omega (arith, loads.answered.0, c.requires))
