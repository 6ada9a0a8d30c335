use Rattle.std.proofs.Common.{refl}
use Rattle.rrs_exec.proofs.process.started.Goals as goal

pub returns : goal.returns
returns c = λ bytes writable. rw (c.new-hart.ensures.registers, c.new-hart.ensures.last) refl
