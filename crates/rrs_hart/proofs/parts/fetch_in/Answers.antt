use Rattle.rrs_hart.proofs.Fetches.{unfetched_by_halves}
use Rattle.rrs_hart.proofs.parts.fetch_in.Goals as goal

pub returns-then-profile-clause-step : goal.returns-then-profile-clause-step
returns-then-profile-clause-step g c =
    unfetched_by_halves c.args.profile (g.M.Memory.bytes c.args.mem.now) c.args.pc c.fetch_encoding.result c.if-profile.true c.fetch_encoding.ensures.fetched
