use Rattle.rrs_linux.proofs.Determined.{determined}
use Rattle.rrs_linux.proofs.recorder.records_determined.Goals as goal

pub returns : goal.returns
returns c = determined
