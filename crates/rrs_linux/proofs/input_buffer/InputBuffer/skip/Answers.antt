use Rattle.rrs_linux.proofs.Placed.{range_skipped}
use Rattle.rrs_linux.proofs.input_buffer.InputBuffer.skip.Goals as goal

pub returns-clause-bytes : goal.returns-clause-bytes
returns-clause-bytes c =
    range_skipped c.args.self.now.bytes c.args.self.now.start c.args.self.now.end c.args.count c.requires
