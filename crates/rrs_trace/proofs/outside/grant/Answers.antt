-- The register of a load, and then the program counter.
use Rattle.std.proofs.Common.{false, Ok, ap, ◌∙◌}
use Rattle.rrs_lib.specs.Steps.{advanced}
use Rattle.rrs_trace.proofs.outside.grant.Goals as goal

pub returns-clause-grants : goal.returns-clause-grants
returns-clause-grants c = record {
  grants = λ bytes writable. (c.next_pc.ensures.advances c.load_given-last_register_write.new.registers c.load_given-last_register_write.result).advances bytes writable
      ∙ ap (λ x. advanced x (Ok false)) ((c.load_given-last_register_write.ensures.loads c.args.pc).loads bytes writable);
}
