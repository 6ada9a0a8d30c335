-- Where all is known, nothing is sent.
use Rattle.std.proofs.Common.{◌≤◌, ◌-◌, length, rules}
use Rattle.rrs_gdb.proofs.OutputLemmas.{prints_known}
use Rattle.rrs_gdb.proofs.resume.send_new.Goals as goal

pub returns-then-known-bytes-clause-sent : goal.returns-then-known-bytes-clause-sent
returns-then-known-bytes-clause-sent g c =
    let known : length c.args.bytes.now ≤ c.args.state.now.sent - c.args.state.now.made = search rules in
    prints_known g.W.Write.contents c.args.link.now (c.args.state.now.sent - c.args.state.now.made) c.args.bytes.now known
