use Rattle.std.proofs.Common.{◌≡◌, ℕ, List, refl, subst}
use Rattle.rrs_linux.specs.Statuses.{PutsBytes}
use Rattle.rrs_files.specs.declared.folder.Moment.{Moment}
use Rattle.rrs_files.specs.declared.folder.Status.{Status}
use Rattle.rrs_files.specs.declared.statuses.Form.{Form}
use Rattle.rrs_files.specs.Statuses.{stream_bytes, told_bytes}
use Rattle.rrs_files.proofs.statuses.put_stream.Goals as goal

-- what is told of a stream
abbrev stream : Status
stream =
    let never : Moment = record { seconds = 0; nanos = 0 } in
    record {
      device = 0;
      number = 0;
      mode = 0x1180;
      links = 1;
      owner = 0;
      group = 0;
      size = 0;
      block_size = 4096;
      blocks = 0;
      accessed = never;
      modified = never;
      changed = never;
    }

told_of_stream : (form : Form) → told_bytes form stream ≡ stream_bytes form
told_of_stream Form.Stat64 = refl
told_of_stream Form.Statx = refl

pub returns-clause-put : goal.returns-clause-put
returns-clause-put g c =
    let memory = g.M.Memory in
    let put = c.put_told.ensures.put in
    record {
      accesses = put.accesses;
      these = subst (λ (told : List ℕ). PutsBytes (memory.writable c.args.memory.now) (memory.bytes c.args.memory.now)
          (memory.bytes c.put_told.new.memory) c.args.address told put.accesses c.put_told.result)
          (told_of_stream c.args.form) put.these;
      made = put.made;
    }
