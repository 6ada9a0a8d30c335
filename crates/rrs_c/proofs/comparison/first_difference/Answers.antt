-- The fields of each part, and then those of the parts after it.
use Rattle.std.proofs.Common.{◌++◌}
use Rattle.rrs_c.specs.Comparing.{source_fields, written_fields, memory_fields}
use Rattle.rrs_c.proofs.comparison.first_difference.Goals as goal

pub returns : goal.returns
returns c =
    let m = c.args.model.now in
    let k = c.args.core.now in
    let memory = memory_fields c.args.by_words m k in
    c.step_difference.ensures (source_fields m k ++ written_fields m k ++ memory)
    (c.source_difference-sources.ensures (written_fields m k ++ memory)
    (c.written_difference-written.ensures memory c.memory_difference-memory.ensures))
