-- The word is there, or it is appended.
use Rattle.std.proofs.Common.{subst, ◌∙◌}
use Rattle.std.proofs.lemmas.Bool.{OnTrue_at, OnFalse_at, OnFalse_from}
use Rattle.rrs_memory.specs.Bytes.{width, Writes}
use Rattle.rrs_exec.specs.ProcessMemories.{process_bytes, process_writable, process_layout}
use Rattle.rrs_exec.proofs.process_memory.ProcessMemoryMemory.write_mem.Goals as goal

pub returns-then-put-clause-laws : goal.returns-then-put-clause-laws
returns-then-put-clause-laws c = OnTrue_at c.if-put.true c.put.ensures.written

pub returns-then-put-clause-did : goal.returns-then-put-clause-did
returns-then-put-clause-did c = record {
  written = (OnTrue_at c.if-put.true c.put.ensures.written).written;
  refused = tt;
}

pub returns-clause-laws : goal.returns-clause-laws
returns-clause-laws c =
    subst (λ old. Writes process_bytes process_writable process_layout old c.write_past.new.self c.args.addr (width c.args.size) c.args.store_data c.write_past.result)
    (OnFalse_at c.if-put.false c.put.ensures.refused) c.write_past.ensures.laws

pub returns-clause-did : goal.returns-clause-did
returns-clause-did c = record {
  written = (returns-clause-laws c).written;
  refused = OnFalse_from _ _ (λ f. OnFalse_at f c.write_past.ensures.refused ∙ OnFalse_at c.if-put.false c.put.ensures.refused);
}
