use Rattle.std.proofs.Common.{refl}
use Rattle.rrs_files.specs.Acts.{ChangesName}
use Rattle.rrs_files.specs.Calls.{ByPath, HasNoTimes, HasTimes}
use Rattle.rrs_files.proofs.Buffers.{later}
use Rattle.rrs_files.proofs.files.Files.set_times.Goals as goal

pub returns-in-Err-clause-does : goal.returns-in-Err-clause-does
returns-in-Err-clause-does g c =
    let took = c.in-Err.ensures.taken in
    record {
      accesses = took.accesses;
      these = HasNoTimes took.these refl c.times_at.ensures.bytes_kept;
      made = took.made;
    }

pub returns-in-Ok-clause-does : goal.returns-in-Ok-clause-does
returns-in-Ok-clause-does g c =
    let memory = g.M.Memory in
    let took = c.in-Ok.ensures.taken in
    let kept = c.times_at.ensures in
    later memory.reads memory.writes
    (λ w b xs. ByPath g.F.Folder.did w b (memory.bytes c.change_name_at.new.memory)
    (λ text. ChangesName g.F.Folder.did text c.in-Ok.change) c.args.beside c.args.path
    c.args.self.now c.change_name_at.new.self c.change_name_at.result xs)
    (memory.writable c.args.memory.now) (memory.writable c.times_at.new.memory)
    (memory.bytes c.args.memory.now) (memory.bytes c.times_at.new.memory) took.accesses
    kept.writable_kept kept.bytes_kept
    (λ xs does. HasTimes c.in-Ok.change took.accesses xs took.these does refl)
    took.made c.change_name_at.ensures.does
