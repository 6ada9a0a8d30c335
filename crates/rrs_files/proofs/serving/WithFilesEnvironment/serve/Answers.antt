use Rattle.std.proofs.Common.{refl, sym, ◌∙◌}
use Rattle.rrs_lib.specs.Machine.{state_of}
use Rattle.rrs_linux.specs.SystemCalls.{answered}
use Rattle.rrs_files.specs.Calls.{IsFile, IsOnStream, IsOther}
use Rattle.rrs_files.proofs.AllowedCalls.{allowed}
use Rattle.rrs_files.proofs.serving.WithFilesEnvironment.serve.Goals as goal

pub returns-in_default-clause-served : goal.returns-in_default-clause-served
returns-in_default-clause-served g c =
    let other = c.serve.ensures.served in
    let bytes = g.M.Memory.bytes c.args.executor.now.mem.now in
    let writable = g.M.Memory.writable c.args.executor.now.mem.now in
    record {
      accesses = other.accesses;
      these = IsOther (c.in_default.ensures bytes writable) other.these refl;
      made = other.made;
    }

pub returns-in-Some-stream_asked-clause-served : goal.returns-in-Some-stream_asked-clause-served
returns-in-Some-stream_asked-clause-served g c =
    let other = c.serve-in-Some-stream_asked.ensures.served in
    let bytes = g.M.Memory.bytes c.args.executor.now.mem.now in
    let writable = g.M.Memory.writable c.args.executor.now.mem.now in
    record {
      accesses = other.accesses;
      these = IsOnStream c.in-Some.request c.in-Some-stream_asked.stream (c.in-Some.ensures bytes writable)
          (sym c.stream_asked.ensures ∙ c.in-Some-stream_asked.is)
          (rw (c.write_register.ensures.written bytes writable) at other.these) refl;
      made = other.made;
    }

pub returns-in-None-clause-served : goal.returns-in-None-clause-served
returns-in-None-clause-served g c =
    let memory = g.M.Memory in
    let did = c.perform-answer.ensures.does in
    let went = c.go_on.ensures in
    let hart = c.args.executor.now.hart_state.now in
    let kept = c.perform-answer.ensures.writable_kept in
    let bytes = memory.bytes c.perform-answer.new.memory in
    let harmless = allowed g.F.Folder.did (memory.writable c.args.executor.now.mem.now)
    (memory.bytes c.args.executor.now.mem.now) bytes c.args.self.now.files c.perform-answer.new.self
    c.perform-answer.result c.in-Some.request did.accesses did.these in
    record {
      accesses = did.accesses;
      these = IsFile c.in-Some.request bytes c.perform-answer.result (c.in-Some.ensures (g.M.Memory.bytes c.args.executor.now.mem.now) (g.M.Memory.writable c.args.executor.now.mem.now))
          (sym c.stream_asked.ensures ∙ c.in-None.is) harmless.0 harmless.1
          (went.answered _ _ ∙ (λ i. answered (state_of hart bytes (kept i)) c.perform-answer.result)) went.goes_on
          refl;
      made = did.made;
    }
